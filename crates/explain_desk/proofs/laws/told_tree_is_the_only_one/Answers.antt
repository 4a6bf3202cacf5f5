use Rattle.explain_desk.proofs.OnlyTrees.{told_tree_is_the_only_one}
use Rattle.explain_desk.proofs.laws.told_tree_is_the_only_one.Goals as goal

pub returns : goal.returns
returns c = told_tree_is_the_only_one
