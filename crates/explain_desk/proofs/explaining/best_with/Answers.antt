use Rattle.bundle_rules.specs.Bundles.{sections_of}
use Rattle.explain_desk.proofs.Offering.{proved_with}
use Rattle.explain_desk.proofs.explaining.best_with.Goals as goal

pub returns-in_ok-tree-in-Some-clause-some : goal.returns-in_ok-tree-in-Some-clause-some
returns-in_ok-tree-in-Some-clause-some c =
    proved_with c.args.offered.now.menu.now c.args.offered.now.prices.now c.args.offered.now.budget.0 c.args.offered.now.sections c.args.section.0 (sections_of c.in-Some.bundle)
    c.in_ok-tree-in-Some.tree.items c.full-all.result c.full-all.ensures c.in-Some.ensures.some c.in_ok-tree-in-Some.ensures
