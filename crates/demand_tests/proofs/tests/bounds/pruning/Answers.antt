use Rattle.bundle_rules.specs.Bundles.{sections_of}
use Rattle.bundle_bounds.specs.Offers.{offer_of, places_of}
use Rattle.bundle_bounds.specs.Bounds.{bounds}
use Rattle.bundle_bounds.proofs.NodeFacts.{first_has}
use Rattle.demand_tests.proofs.tests.bounds.pruning.Goals as goal

pub bound-requires-clause-leaf : goal.bound-requires-clause-leaf
bound-requires-clause-leaf g c =
    let menu = c.args.menu.now in
    let offer = offer_of menu c.args.prices.now c.args.budget c.full-allowed.result in
    let cs = places_of menu (sections_of c.empty.result) in
    first_has offer c.args.place cs (places_of menu (sections_of c.expect-champion.result)) (bounds offer c.args.place cs) c.in_ok-leaf.leaf
    c.in_ok-leaf.ensures.first
