use Rattle.bundle_bounds.specs.Offers.{price_at}
use Rattle.bundle_bounds.specs.Views.{data_of}
use Rattle.demand_oracle.specs.PriceColumns.{column_of}
use Rattle.demand_oracle.proofs.goods.within_of.Goals as goal

pub returns : goal.returns
returns c p units on low at =
    c.within_each.ensures (column_of c.args.unit.shift (price_at (data_of c.args.offer.now) p)) units p at low (c.by_column.ensures p on)
