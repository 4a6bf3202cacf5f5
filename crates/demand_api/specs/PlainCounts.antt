-- What demands in one thread show.
use Rattle.std.specs.Prelude.{ℕ}
use Rattle.std.specs.Arc.{arc_value}
use Rattle.demand_api.specs.declared.plain_demands.PlainDemands.{PlainDemands}
use Rattle.demand_api.specs.Crowds.{CrowdData}
use Rattle.demand_api.specs.Views.{data_of}

-- the crowd that is asked
abbrev pub crowd_of : PlainDemands → CrowdData
crowd_of demands = data_of (arc_value demands.crowd)

-- how many calls were made
abbrev pub asked_of : PlainDemands → ℕ
asked_of demands = demands.asked

-- how many students were asked
abbrev pub inquiries_of : PlainDemands → ℕ
inquiries_of demands = demands.inquiries
