-- The least price of a section.
use Rattle.std.specs.Prelude.{ℕ, ◌<◌, ◌≤◌}
use Rattle.demand_api.specs.Crowds.{CrowdData, count}
use Rattle.demand_api.specs.Prices.{with_price}

-- at this price of the section at most so many students take it, and at each lower price more, the
-- other prices as given
pub record IsLeastPrice (crowd : CrowdData) (price : ℕ → ℕ) (s limit least : ℕ) : Type 0 where
  pub within : count crowd (with_price price s least) s ≤ limit
  pub lower : (p : ℕ) → p < least → limit < count crowd (with_price price s p) s
