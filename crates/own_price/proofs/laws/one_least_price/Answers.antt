use Rattle.own_price.proofs.Leasts.{one_least_price}
use Rattle.own_price.proofs.laws.one_least_price.Goals as goal

pub returns : goal.returns
returns c = one_least_price
