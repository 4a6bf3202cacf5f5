use Rattle.std.proofs.Common.{take}
use Rattle.bundle_rules.specs.Demand.{price_in}
use Rattle.demand_api.specs.Crowds.{demands}
use Rattle.demand_api.specs.Views.{data_of}
use Rattle.demand_api.specs.Counting.{AreCounts}
use Rattle.demand_api.proofs.plain.counts_at.Given as goal

abbrev pub invariant-loop-place : goal.invariant-loop-place
invariant-loop-place l =
    AreCounts l.asked.crowd.now.sections (take l.place (demands (data_of l.asked.crowd.now) (price_in l.asked.prices.now))) l.counts.items
