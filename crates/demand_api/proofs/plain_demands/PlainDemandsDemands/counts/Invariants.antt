use Rattle.std.proofs.Common.{◌≡◌, take, map}
use Rattle.bundle_rules.specs.Demand.{price_in}
use Rattle.demand_api.specs.Crowds.{counts}
use Rattle.demand_api.specs.Views.{data_of}
use Rattle.demand_api.proofs.plain_demands.PlainDemandsDemands.counts.Given as goal

abbrev pub invariant-loop-prices : goal.invariant-loop-prices
invariant-loop-prices g l =
    map (λ counts. counts.items) l.found.items
    ≡ map (λ prices. counts (data_of l.crowd) (price_in prices.items)) (take l.prices-index l.batch)
