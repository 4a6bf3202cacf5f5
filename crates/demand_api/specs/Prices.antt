-- Prices of which one is changed, and least prices.
use Rattle.std.specs.Prelude.{ℕ, ◌<◌, ◌≤◌, ◌≡◌, ◌≢◌, ◌==◌, if◌then◌else◌, List}
use Rattle.std.specs.List.{AllZip}
use Rattle.market_units.specs.declared.units.SectionNo.{SectionNo}
use Rattle.market_units.specs.declared.units.Tokens.{Tokens}
use Rattle.demand_api.specs.Crowds.{CrowdData, count}

-- the prices with another one for a section
abbrev pub with_price : (ℕ → ℕ) → ℕ → ℕ → ℕ → ℕ
with_price price s p t = if t == s then p else price t

-- one section may have a higher price, all others have the same
pub record IsRaised (s : ℕ) (before after : ℕ → ℕ) : Type 0 where
  pub others : (t : ℕ) → t ≢ s → after t ≡ before t
  pub raised : before s ≤ after s

-- the least price of the section, from this one up, at which at most so many students take it
pub record IsLeastFrom (low : ℕ) (crowd : CrowdData) (price : ℕ → ℕ)
    (s limit least : ℕ) : Type 0 where
  pub from : low ≤ least
  pub within : count crowd (with_price price s least) s ≤ limit
  pub lower : (p : ℕ) → low ≤ p → p < least → limit < count crowd (with_price price s p) s

-- for each pair of a section and a limit the least price of the section from its present one up, in
-- their order
abbrev pub AreLeastPrices : CrowdData → (ℕ → ℕ) → List (SectionNo × ℕ) → List Tokens → Type 0
AreLeastPrices crowd price pairs found =
    AllZip (λ pair least. IsLeastFrom (price pair.0.0) crowd price pair.0.0 pair.1 least.0) pairs
    found
