use Rattle.proof_tree.proofs.Alphabet.{trees_have_tree_bytes}
use Rattle.proof_tree.proofs.laws.trees_have_tree_bytes.Goals as goal

pub returns : goal.returns
returns c = trees_have_tree_bytes
