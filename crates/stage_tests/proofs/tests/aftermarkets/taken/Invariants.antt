use Rattle.std.proofs.Common.{◌≡◌, map, take}
use Rattle.bundle_rules.specs.Bundles.{sections_of}
use Rattle.bundle_rules.specs.Demand.{price_in}
use Rattle.demand_api.specs.Crowds.{demands}
use Rattle.demand_api.specs.Views.{data_of}
use Rattle.stage_tests.proofs.tests.aftermarkets.taken.Given as goal

abbrev pub invariant-loop-place : goal.invariant-loop-place
invariant-loop-place l =
    map sections_of l.bundles.items ≡ take l.place (demands (data_of l.crowd) (price_in l.prices))
