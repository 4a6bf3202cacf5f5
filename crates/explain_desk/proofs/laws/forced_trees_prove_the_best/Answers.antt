use Rattle.explain_desk.proofs.Telling.{forced_trees_prove_the_best}
use Rattle.explain_desk.proofs.laws.forced_trees_prove_the_best.Goals as goal

pub returns : goal.returns
returns c = forced_trees_prove_the_best
