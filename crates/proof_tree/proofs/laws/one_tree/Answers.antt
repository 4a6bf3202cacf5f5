use Rattle.proof_tree.proofs.Uniqueness.{one_tree}
use Rattle.proof_tree.proofs.laws.one_tree.Goals as goal

pub returns : goal.returns
returns c = one_tree
