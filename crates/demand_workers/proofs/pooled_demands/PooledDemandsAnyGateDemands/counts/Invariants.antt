use Rattle.std.proofs.Common.{◌≡◌, Vec, Global, map, take}
use Rattle.std.specs.Arc.{arc_value}
use Rattle.market_units.specs.declared.units.Tokens.{Tokens}
use Rattle.bundle_rules.specs.Demand.{price_in}
use Rattle.demand_api.specs.Crowds.{counts}
use Rattle.demand_api.specs.Views.{data_of}
use Rattle.demand_workers.proofs.pooled_demands.PooledDemandsAnyGateDemands.counts.Given as goal

-- the versions so far are counted
abbrev pub invariant-loop-version : goal.invariant-loop-version
invariant-loop-version g l = record {
  done : map (λ found. found.items) l.found.items
      ≡ map (λ (prices : Vec Tokens Global). counts (data_of (arc_value l.fn.self.crowd)) (price_in prices.items)) (take l.version l.batch);
}
