use Rattle.price_neighbours.proofs.Neighbourhoods.{neighbours_differ}
use Rattle.price_neighbours.proofs.laws.neighbours_differ.Goals as goal

pub returns : goal.returns
returns c = neighbours_differ
