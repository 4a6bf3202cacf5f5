use Rattle.std.specs.Arc.{arc_value}
use Rattle.demand_workers.proofs.pooled_demands.PooledDemandsAnyGateDemands.top.Goals as goal

pub returns-clause-crowd : goal.returns-clause-crowd
returns-clause-crowd g c = (arc_value c.args.self.now.crowd).whole
