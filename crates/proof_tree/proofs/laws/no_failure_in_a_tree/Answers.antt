use Rattle.proof_tree.proofs.NoDefects.{no_failure_in_a_tree}
use Rattle.proof_tree.proofs.laws.no_failure_in_a_tree.Goals as goal

pub returns : goal.returns
returns c = no_failure_in_a_tree
