-- Prices with what each student takes at them.
use Rattle.std.specs.Prelude.{ℕ, ◌≡◌, List}
use Rattle.market_units.specs.declared.units.Tokens.{Tokens}
use Rattle.bundle_rules.specs.Demand.{price_in}
use Rattle.demand_api.specs.Crowds.{CrowdData, demands}
use Rattle.demand_api.specs.Asking.{ArePricesFor}

-- a price for each section, and for each student in file order the sections of a bundle
pub record HeldData : Type 0 where
  pub prices : List Tokens
  pub bundles : List (List ℕ)

-- the bundles are what the crowd's students take at the prices
pub record Holds (crowd : CrowdData) (held : HeldData) : Type 0 where
  pub prices : ArePricesFor crowd held.prices
  pub bundles : held.bundles ≡ demands crowd (price_in held.prices)
