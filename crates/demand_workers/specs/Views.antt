-- What is remembered, as plain data.
use Rattle.std.specs.Prelude.{ℕ, List, map}
use Rattle.std.specs.Arc.{arc_value}
use Rattle.bundle_rules.specs.Bundles.{sections_of}
use Rattle.bundle_rules.specs.Demand.{price_in}
use Rattle.demand_api.specs.Counting.{AreCounts}
use Rattle.demand_api.specs.Crowds.{CrowdData}
use Rattle.demand_api.specs.Views.{data_of}
use Rattle.demand_workers.specs.declared.remembered.Remembered.{Remembered}

-- the crowd of which something is remembered
abbrev pub crowd_of : Remembered → CrowdData
crowd_of remembered = data_of (arc_value remembered.crowd)

-- the price of each section at which the bundles are remembered
abbrev pub price_before : Remembered → ℕ → ℕ
price_before remembered = price_in remembered.prices.items

-- how many students take each section, of what is remembered
abbrev pub AreRememberedCounts : Remembered → List ℕ → Type 0
AreRememberedCounts remembered counts =
    AreCounts (crowd_of remembered).sections (map sections_of remembered.bundles.items) counts
