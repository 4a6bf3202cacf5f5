use Rattle.proof_tree.proofs.Complete.{trees_prove_the_best_with}
use Rattle.proof_tree.proofs.laws.trees_prove_the_best_with.Goals as goal

pub returns : goal.returns
returns c = trees_prove_the_best_with
