use Rattle.tabu_search.proofs.Ends.{search_ends}
use Rattle.tabu_search.proofs.laws.search_ends.Goals as goal

pub returns : goal.returns
returns c = search_ends
