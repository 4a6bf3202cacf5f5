use Rattle.tabu_search.proofs.Courses.{visited_are_prices}
use Rattle.tabu_search.proofs.laws.visited_are_prices.Goals as goal

pub returns : goal.returns
returns c = visited_are_prices
