use Rattle.price_neighbours.proofs.Leasts.{least_fewer_is_least}
use Rattle.price_neighbours.proofs.laws.least_fewer_is_least.Goals as goal

pub returns : goal.returns
returns c = least_fewer_is_least
