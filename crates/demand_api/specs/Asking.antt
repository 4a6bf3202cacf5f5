-- What a crowd may be asked, how often it was, and how many of its students were.
use Rattle.std.specs.Prelude.{◌*◌, ℕ, ◌<◌, ◌≤◌, ◌≡◌, ◌+◌, ◌-◌, ◌^◌, List, All, length, min}
use Rattle.market_units.specs.declared.limits.TheConstants.{MAX_PRICE}
use Rattle.market_units.specs.declared.units.Tokens.{Tokens}
use Rattle.demand_api.specs.Crowds.{CrowdData, top}

-- one price for each section, each at most 1,000,001
pub record AreSectionPrices (sections : ℕ) (prices : List Tokens) : Type 0 where
  pub same : length prices ≡ sections
  pub high : All (λ price. price.0 ≤ MAX_PRICE) prices

-- one price for each section, each at most the top
pub record ArePricesFor (crowd : CrowdData) (prices : List Tokens) : Type 0 where
  pub same : length prices ≡ crowd.sections
  pub high : All (λ price. price.0 ≤ top crowd) prices

-- the count, which is a u64, rose by this, or stands at the greatest u64
abbrev pub RoseBy : ℕ → ℕ → ℕ → Type 0
RoseBy rise before now = now ≡ min (before + rise) (2 ^ 64 - 1)

-- the count, which is a u64, did not fall, and rose at most by this
pub record RoseAtMost (rise before now : ℕ) : Type 0 where
  pub kept : min before (2 ^ 64 - 1) ≤ now
  pub most : now ≤ before + rise

-- the count, which is a u64, did not fall, and rose at most by so many times the binary digits of n
-- plus 1
pub record RoseByDigits (times n before now : ℕ) : Type 0 where
  pub kept : min before (2 ^ 64 - 1) ≤ now
  pub most : (digits : ℕ) → n < 2 ^ digits → now ≤ before + times * (digits + 1)
