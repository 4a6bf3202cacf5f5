use Rattle.market_units.proofs.Orders.{not_both_are_earlier}
use Rattle.market_units.proofs.laws.not_both_are_earlier.Goals as goal

pub returns : goal.returns
returns c = not_both_are_earlier
