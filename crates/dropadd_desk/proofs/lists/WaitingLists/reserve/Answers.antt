use Rattle.std.proofs.Common.{◌++◌, ◌∷◌, [], ap, sym, subst, arith, replicate, ◌∙◌, refl}
use Rattle.dropadd_desk.specs.Fronts.{AreLive, fronts_in}
use Rattle.dropadd_desk.proofs.FrontRows.{first_spare, live_more, lists_more}
use Rattle.dropadd_desk.proofs.lists.WaitingLists.reserve.Goals as goal

pub lists-init : goal.lists-init
lists-init c = record {
  live = subst (AreLive c.in_ok-region.region) (sym c.in_ok-fronts.ensures.items) tt;
  lists = ap (fronts_in c.in_ok-region.region.live) c.in_ok-fronts.ensures.items;
  spare =
      first_spare c.in_ok-region.region c.args.lists c.args.width
      (c.in_ok-region.ensures ∙ (let e = c.from.ensures in let f = c.from-2.ensures in rw (e, f) refl));
  wide = ap (λ r. r.width) c.in_ok-region.ensures ∙ c.from-2.ensures;
}

pub lists-preserved : goal.lists-preserved
lists-preserved c =
    let row = replicate c.lists.region.width c.lists.region.fill in
    record {
      live = subst (AreLive c.take-row.new.self) (sym c.in_ok-push.ensures.items) (subst (λ r. AreLive r (c.lists.fronts.items ++ record { row = c.take-row.result.0; len = 0 } ∷ [])) (sym c.take-row.ensures.filled)
          (live_more c.lists.region (record { row = c.take-row.result.0; len = 0 }) row c.lists.fronts.items (omega arith) c.take-row.ensures.was_spare c.lists.invariant.live));
      lists =
          ap (fronts_in c.take-row.new.self.live) c.in_ok-push.ensures.items
          ∙ lists_more c.lists.region c.take-row.new.self c.take-row.result.0 c.lists.counter row c.lists.fronts.items c.take-row.ensures.was_spare
          c.take-row.ensures.filled c.lists.invariant.live c.lists.invariant.lists;
      spare = omega (arith, c.take-row.ensures.spare, c.lists.invariant.spare);
      wide = ap (λ r. r.width) c.take-row.ensures.filled ∙ c.lists.invariant.wide;
    }
