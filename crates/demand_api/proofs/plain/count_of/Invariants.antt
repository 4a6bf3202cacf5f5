use Rattle.std.proofs.Common.{◌≡◌, ◌≤◌, take}
use Rattle.bundle_rules.specs.Demand.{price_in}
use Rattle.demand_api.specs.Crowds.{demands, holders}
use Rattle.demand_api.specs.Views.{data_of}
use Rattle.demand_api.proofs.plain.count_of.Given as goal

abbrev pub invariant-loop-place : goal.invariant-loop-place
invariant-loop-place l =
    (l.count ≡ holders l.section.0 (take l.place (demands (data_of l.asked.crowd.now) (price_in l.asked.prices.now))))
    × (l.count ≤ l.place)
