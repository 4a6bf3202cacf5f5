use Rattle.proof_tree.proofs.Alphabet.{trees_have_tree_bytes}
use Rattle.published_market.specs.Views.{bundle_in, offer_of_best}
use Rattle.published_market.proofs.Bests.{best_holds}
use Rattle.published_market.proofs.trees.prove_bundle.Goals as goal

pub returns-clause-proved : goal.returns-clause-proved
returns-clause-proved c = record { best = best_holds c.args.best.now; proved = c.in_ok-tree.ensures }

pub returns-clause-form : goal.returns-clause-form
returns-clause-form c =
    let bytes =
    trees_have_tree_bytes (offer_of_best c.args.best.now) (bundle_in c.args.best.now) c.in_ok-tree.tree.items c.len.ensures.menu c.in_ok-tree.ensures in
    record { is_bundle = c.sections.ensures.bundle; bytes = bytes }
