use Rattle.std.proofs.Common.{◌≡◌, ◌≤◌, length, ◌∙◌, arith}
use Rattle.std.proofs.Math.ListN.{length-set}
use Rattle.bundle_rules.specs.Demand.{price_in}
use Rattle.bundle_rules.specs.Menus.{section_at}
use Rattle.demand_oracle.proofs.Rows.{row_more}
use Rattle.demand_oracle.proofs.goods.prices_of.Goals as goal

pub loop-place-preserved : goal.loop-place-preserved
loop-place-preserved c =
    let few : length c.args.offer.now.menu.now.places ≤ 60 = c.len-place-end.ensures.menu.places.few in
    record {
      whole = length-set c.loop-place.row c.from.result _ ∙ c.loop-place.invariant.whole;
      filled =
          row_more (λ p v. v ≡ price_in c.args.offer.now.prices.now (section_at c.args.offer.now.menu.now.places p)) c.loop-place.row c.loop-place.place c.from.result
          c.price_of_place.result c.from.ensures (omega (arith, c.loop-place.invariant.whole)) c.loop-place.invariant.filled c.price_of_place.ensures.value;
    }
