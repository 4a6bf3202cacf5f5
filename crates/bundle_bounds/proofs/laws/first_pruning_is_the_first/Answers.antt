use Rattle.bundle_bounds.proofs.FirstPruning.{first_pruning_is_the_first}
use Rattle.bundle_bounds.proofs.laws.first_pruning_is_the_first.Goals as goal

pub returns : goal.returns
returns c = first_pruning_is_the_first
