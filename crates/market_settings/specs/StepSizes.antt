-- The step sizes of the search.
use Rattle.std.specs.Prelude.{ℕ, ◌≤◌, List, length, All}
use Rattle.market_units.specs.declared.limits.TheConstants.{MAX_STEP, MAX_STEPS}

-- 1 to 16 numbers from 1 to 100,000
pub record AreStepSizes (sizes : List ℕ) : Type 0 where
  pub some : 1 ≤ length sizes
  pub few : length sizes ≤ MAX_STEPS
  pub within : All (λ size. (1 ≤ size) × (size ≤ MAX_STEP)) sizes
