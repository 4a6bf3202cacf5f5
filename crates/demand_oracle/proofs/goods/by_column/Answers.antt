use Rattle.std.proofs.Common.{◌≡◌, ◌≤◌, ◌/◌, ◌^◌, min, length, ◌∙◌, arith}
use Rattle.std.proofs.Math.ListN.{length-set}
use Rattle.bundle_bounds.specs.Offers.{price_at}
use Rattle.bundle_bounds.specs.Views.{data_of}
use Rattle.demand_oracle.specs.PriceColumns.{column_of}
use Rattle.demand_oracle.proofs.Rows.{column_more}
use Rattle.demand_oracle.proofs.goods.by_column.Goals as goal

pub loop-place-preserved : goal.loop-place-preserved
loop-place-preserved c =
    let few : length c.args.offer.now.menu.now.places ≤ 60 = c.len-place-end.ensures.menu.places.few in
    record {
      whole = length-set c.loop-place.words c.last_column-column.result _ ∙ c.loop-place.invariant.whole;
      filled =
          column_more (λ p. column_of c.args.unit.shift (price_at (data_of c.args.offer.now) p)) c.loop-place.words c.loop-place.place c.last_column-column.result
          (omega arith) c.loop-place.invariant.filled
          (rw c.price_of_place-price.ensures.value at c.last_column-column.ensures)
          (let at : c.last_column-column.result ≡ min 63 (c.price_of_place-price.result / 2 ^ c.args.unit.shift) = c.last_column-column.ensures in
          omega (arith, c.loop-place.invariant.whole));
    }
