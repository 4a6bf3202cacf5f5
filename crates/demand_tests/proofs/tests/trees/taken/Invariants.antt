use Rattle.bundle_rules.specs.Bundles.{sections_of}
use Rattle.bundle_bounds.specs.Offers.{offer_of}
use Rattle.bundle_bounds.specs.Laws.{IsNode}
use Rattle.demand_tests.proofs.tests.trees.taken.Given as goal

abbrev pub invariant-sections : goal.invariant-sections
invariant-sections g l = IsNode (offer_of l.menu l.prices l.budget.0 l.allowed) l.node.place (sections_of l.node.chosen)
