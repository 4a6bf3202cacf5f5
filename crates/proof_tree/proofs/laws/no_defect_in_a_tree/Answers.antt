use Rattle.proof_tree.proofs.NoDefects.{no_defect_in_a_tree}
use Rattle.proof_tree.proofs.laws.no_defect_in_a_tree.Goals as goal

pub returns : goal.returns
returns c = no_defect_in_a_tree
