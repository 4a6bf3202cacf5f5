-- What is known of the bounds of a resource, beside a limit.
use Rattle.std.specs.Prelude.{ℕ, ◌<◌, ◌≤◌, ℤ, pos, ◌+ℤ◌, ◌≤ℤ◌, List}
use Rattle.bundle_bounds.specs.declared.prospects.Prospect.{Prospect}
use Rattle.bundle_bounds.specs.declared.prospects.Resource.{Resource}
use Rattle.bundle_bounds.specs.declared.known.Known.{Known}
use Rattle.bundle_bounds.specs.Bounds.{at_price}

-- the bound at this price is not below the limit
abbrev pub NotBelow : ℤ → ℤ → ℕ → Resource → List Prospect → ℕ → Type 0
NotBelow base limit rest resource all price =
    limit ≤ℤ (base +ℤ pos (at_price resource rest price all))

-- no bound is below the limit at a low price, nor at a high one; neither is far above all prices
pub record IsKnown (base limit : ℤ) (rest : ℕ) (resource : Resource) (all : List Prospect)
    (known : Known) : Type 0 where
  pub low : (price : ℕ) → price < known.low → NotBelow base limit rest resource all price
  pub high : (price : ℕ) → known.high ≤ price → price ≤ 20000000
      → NotBelow base limit rest resource all price
  pub low_within : known.low ≤ 20000002
  pub high_within : known.high ≤ 20000001
