use Rattle.std.proofs.Common.{ℕ, ◌/◌, ◌^◌}
use Rattle.std.proofs.Math.Pow.{shr_mono}
use Rattle.bundle_bounds.specs.Offers.{price_at}
use Rattle.demand_oracle.proofs.Rows.{column_below}
use Rattle.demand_oracle.proofs.goods.Goods.affordable.Goals as goal

pub returns : goal.returns
returns c offer goods place on within =
    let shift : ℕ = c.args.self.now.unit.shift in
    let at =
    column_below (price_at offer place / 2 ^ shift) (c.args.tokens / 2 ^ shift) c.last_column.result (shr_mono shift within) c.last_column.ensures in
    goods.within place c.last_column.result on at.1 at.0
