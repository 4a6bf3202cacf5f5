use Rattle.market_units.proofs.Orders.{one_is_earlier}
use Rattle.market_units.proofs.laws.one_is_earlier.Goals as goal

pub returns : goal.returns
returns c = one_is_earlier
