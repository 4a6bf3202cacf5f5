use Rattle.tabu_search.proofs.Ends.{one_least_error}
use Rattle.tabu_search.proofs.laws.one_least_error.Goals as goal

pub returns : goal.returns
returns c = one_least_error
