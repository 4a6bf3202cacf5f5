use Rattle.std.specs.FinSet as set
use Rattle.bundle_rules.specs.Demand.{price_in}
use Rattle.bundle_rules.specs.Bundles.{sections_of}
use Rattle.demand_api.proofs.Takers.{priced_at, found_demand}
use Rattle.demand_tests.proofs.tests.driver.taken.Goals as goal

pub best_plain-requires : goal.best_plain-requires
best_plain-requires c =
    priced_at c.args.crowd.now c.args.prices.now c.args.student.0 c.index.result.now
    c.requires.prices c.requires.student c.index.ensures

pub returns : goal.returns
returns c =
    found_demand c.args.crowd.now (price_in c.args.prices.now) c.args.student.0
    c.index.result.now _ (set.contains c.full-allowed.result) (sections_of c.best_plain.result)
    c.requires.student c.index.ensures c.index-2.ensures c.full-allowed.ensures c.best_plain.ensures
