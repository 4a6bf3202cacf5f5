-- The laws of neighbours.
use Rattle.std.specs.Prelude.{ℕ, ◌<◌, ◌≤◌, ◌≡◌, List, All, AllPairs, Some, false}
use Rattle.market_units.specs.declared.units.Tokens.{Tokens}
use Rattle.demand_api.specs.Crowds.{CrowdData, count}
use Rattle.demand_api.specs.Prices.{with_price}
use Rattle.demand_api.specs.Asking.{ArePricesFor}
use Rattle.price_neighbours.specs.Distinct.{same_prices}
use Rattle.price_neighbours.specs.Neighbours.{least_fewer, neighbours}

-- a greater price at which fewer students take the section, and no price between is one
pub record IsLeastFewer (crowd : CrowdData) (price : ℕ → ℕ) (s least : ℕ) : Type 0 where
  pub above : price s < least
  pub fewer : count crowd (with_price price s least) s < count crowd price s
  pub lower : (p : ℕ) → price s < p → p < least
      → count crowd price s ≤ count crowd (with_price price s p) s

-- a section that some students take has such a price, and it is the one that is meant
abbrev pub LeastFewerIsLeast : Type 0
LeastFewerIsLeast =
    (crowd : CrowdData) (price : ℕ → ℕ) (s : ℕ) → 0 < count crowd price s
    → (least : ℕ) × (least_fewer crowd price s ≡ Some least) × IsLeastFewer crowd price s least

-- a neighbour has a price for each section, each at most the top
abbrev pub NeighboursArePrices : Type 0
NeighboursArePrices =
    (crowd : CrowdData) (seats steps : List ℕ) (prices : List Tokens) → ArePricesFor crowd prices
    → All (ArePricesFor crowd) (neighbours crowd seats steps prices)

-- no two neighbours have the same prices
abbrev pub NeighboursDiffer : Type 0
NeighboursDiffer =
    (crowd : CrowdData) (seats steps : List ℕ) (prices : List Tokens)
    → AllPairs (λ one other. same_prices one other ≡ false) (neighbours crowd seats steps prices)
