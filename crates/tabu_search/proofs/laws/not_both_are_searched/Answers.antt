use Rattle.tabu_search.proofs.Ends.{not_both_are_searched}
use Rattle.tabu_search.proofs.laws.not_both_are_searched.Goals as goal

pub returns : goal.returns
returns c = not_both_are_searched
