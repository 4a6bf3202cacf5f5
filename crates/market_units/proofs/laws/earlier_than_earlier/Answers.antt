use Rattle.market_units.proofs.Orders.{earlier_than_earlier}
use Rattle.market_units.proofs.laws.earlier_than_earlier.Goals as goal

pub returns : goal.returns
returns c = earlier_than_earlier
