use Rattle.tabu_search.proofs.Ends.{one_is_found}
use Rattle.tabu_search.proofs.laws.one_is_found.Goals as goal

pub returns : goal.returns
returns c = one_is_found
