use Rattle.std.proofs.Common.{◌≤◌, arith, subst, sym, inl, inr}
use Rattle.std.proofs.lemmas.Bool.{cases_order}
use Rattle.bundle_rules.specs.Menus.{credits_at}
use Rattle.demand_oracle.proofs.tables.lightest.Goals as goal

pub loop-place-preserved : goal.loop-place-preserved
loop-place-preserved c = record {
  lightest = λ one low on. elim (cases_order one c.loop-place.place) [
    | inl same ↦
        subst (λ n. c.lighter-lightest.result ≤ credits_at c.args.offer.now.menu.now.places n) (sym same)
        (c.lighter-lightest.ensures.lightest (rw same at on))
    | inr other ↦
        let before : c.loop-place.lightest ≤ credits_at c.args.offer.now.menu.now.places one =
        c.loop-place.invariant.lightest one (elim other [ inl a ↦ omega arith | inr b ↦ absurd (omega arith) ]) on in
        omega arith
  ];
}

pub returns : goal.returns
returns c place low on = c.loop-place.invariant.lightest place (omega arith) on
