use Rattle.std.proofs.Common.{◌≡◌, take, map}
use Rattle.bundle_rules.specs.Bundles.{sections_of}
use Rattle.bundle_rules.specs.Demand.{price_in}
use Rattle.demand_api.specs.Crowds.{demand_of}
use Rattle.demand_api.specs.Views.{data_of}
use Rattle.demand_api.proofs.plain.bundles.Given as goal

abbrev pub invariant-loop-student : goal.invariant-loop-student
invariant-loop-student l =
    map sections_of l.bundles.items
    ≡ map (λ student. demand_of (data_of l.asked.crowd.now) (price_in l.asked.prices.now) student.0)
    (take l.student-index l.students)
