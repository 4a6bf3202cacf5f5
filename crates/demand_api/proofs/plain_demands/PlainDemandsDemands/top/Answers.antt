use Rattle.std.specs.Arc.{arc_value}
use Rattle.demand_api.proofs.plain_demands.PlainDemandsDemands.top.Goals as goal

pub returns-clause-crowd : goal.returns-clause-crowd
returns-clause-crowd c = (arc_value c.args.self.now.crowd).whole
