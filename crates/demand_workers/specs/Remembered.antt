-- What is remembered of a crowd.
use Rattle.std.specs.Prelude.{ℕ, ◌<◌, ◌≤◌, ◌≡◌, List, All, length, slice_index_or}
use Rattle.market_units.specs.declared.units.Tokens.{Tokens}
use Rattle.bundle_rules.specs.declared.bundle.Bundle.{Bundle}
use Rattle.bundle_rules.specs.declared.menu.Rated.{Rated}
use Rattle.bundle_rules.specs.Bundles.{sections_of}
use Rattle.bundle_rules.specs.Demand.{price_in}
use Rattle.demand_api.specs.Crowds.{CrowdData, demand_of}

-- each of these bundles is what the student of its place takes at the prices
abbrev pub AreTaken : CrowdData → List Tokens → List Bundle → Type 0
AreTaken crowd prices bundles =
    (student : ℕ) (d : Bundle) → student < length bundles
    → sections_of (slice_index_or bundles student d) ≡ demand_of crowd (price_in prices) student

-- no section at these places became cheaper
abbrev pub NoneIsCheaper : List Rated → List Tokens → List Tokens → Type 0
NoneIsCheaper places before after =
    All (λ rated. price_in before rated.section.0 ≤ price_in after rated.section.0) places

-- a section that has both prices and is below the first number, or not below the second, did not
-- become cheaper
pub record FellWithin (first past : ℕ) (before after : List Tokens) : Type 0 where
  pub below : (s : ℕ) → s < length before → s < length after → s < first
      → price_in before s ≤ price_in after s
  pub above : (s : ℕ) → s < length before → s < length after → past ≤ s
      → price_in before s ≤ price_in after s

-- the student takes the bundle of its place at these prices
abbrev pub IsKept : CrowdData → List Tokens → List Bundle → ℕ → Type 0
IsKept crowd prices bundles student =
    (d : Bundle)
    → sections_of (slice_index_or bundles student d) ≡ demand_of crowd (price_in prices) student
