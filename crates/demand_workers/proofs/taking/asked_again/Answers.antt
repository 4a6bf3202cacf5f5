use Rattle.std.specs.Arc.{arc_value}
use Rattle.std.specs.FinSet as set
use Rattle.bundle_rules.specs.Demand.{price_in}
use Rattle.bundle_rules.specs.Bundles.{sections_of}
use Rattle.demand_api.proofs.Takers.{priced_at, found_demand}
use Rattle.demand_workers.proofs.taking.asked_again.Goals as goal

pub demand_from-requires : goal.demand_from-requires
demand_from-requires c =
    let question = c.args.question.now in
    priced_at (arc_value question.remembered.now.crowd) question.prices.now question.student.0 c.menu.result.now question.priced question.listed
    (c.menu.ensures c.menu.result.now)

pub returns : goal.returns
returns c =
    let question = c.args.question.now in
    found_demand (arc_value question.remembered.now.crowd) (price_in question.prices.now) question.student.0 c.menu.result.now c.budget.result
    (set.contains question.remembered.now.allowed) (sections_of c.demand_from.result) question.listed (c.menu.ensures c.menu.result.now)
    (c.budget.ensures c.budget.result) question.remembered.now.every c.demand_from.ensures
