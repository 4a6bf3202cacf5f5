use Rattle.price_neighbours.proofs.Neighbourhoods.{neighbours_are_prices}
use Rattle.price_neighbours.proofs.laws.neighbours_are_prices.Goals as goal

pub returns : goal.returns
returns c = neighbours_are_prices
