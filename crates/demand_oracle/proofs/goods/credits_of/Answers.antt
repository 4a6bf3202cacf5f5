use Rattle.std.proofs.Common.{◌≡◌, ◌≤◌, length, sym, ◌∙◌, arith}
use Rattle.std.proofs.Math.ListN.{length-set}
use Rattle.bundle_rules.specs.Menus.{credits_at}
use Rattle.bundle_rules.specs.Existence.Places.{credits_at-is}
use Rattle.demand_oracle.proofs.Rows.{row_more}
use Rattle.demand_oracle.proofs.goods.credits_of.Goals as goal

pub loop-place-preserved : goal.loop-place-preserved
loop-place-preserved c =
    let few : length c.args.menu.now.places ≤ 60 = c.len-place-end.ensures.menu.places.few in
    record {
      whole = length-set c.loop-place.row c.from.result _ ∙ c.loop-place.invariant.whole;
      filled =
          row_more (λ p v. v ≡ credits_at c.args.menu.now.places p) c.loop-place.row c.loop-place.place c.from.result c.rated.result.now.credits
          c.from.ensures (omega (arith, c.loop-place.invariant.whole)) c.loop-place.invariant.filled
          (sym (credits_at-is c.args.menu.now.places c.loop-place.place c.rated.result.now c.rated.ensures.value));
    }
