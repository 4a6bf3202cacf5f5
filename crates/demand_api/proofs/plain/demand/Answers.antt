use Rattle.std.specs.FinSet as set
use Rattle.bundle_rules.specs.Demand.{price_in}
use Rattle.bundle_rules.specs.Bundles.{sections_of}
use Rattle.demand_api.proofs.Takers.{priced_at, found_demand}
use Rattle.demand_api.proofs.plain.demand.Goals as goal

pub best_plain-requires : goal.best_plain-requires
best_plain-requires c =
    priced_at c.args.asked.now.crowd.now c.args.asked.now.prices.now c.args.place c.index.result.now
    c.args.asked.now.priced c.requires.range c.index.ensures

pub returns : goal.returns
returns c =
    found_demand c.args.asked.now.crowd.now (price_in c.args.asked.now.prices.now) c.args.place
    c.index.result.now _ (set.contains c.args.allowed.now) (sections_of c.best_plain.result)
    c.requires.range c.index.ensures c.index-2.ensures c.requires.allowed c.best_plain.ensures
