-- Counts by section, and what one bundle adds to them.
use Rattle.std.specs.Prelude.{ℕ, ◌≡◌, ◌<◌, ◌≤◌, ◌+◌, true, List, [], length, map, slice_index, slice_index_or, if◌then◌else◌}
use Rattle.market_units.specs.declared.limits.TheConstants.{MAX_STUDENTS}
use Rattle.market_units.specs.Members.{has}
use Rattle.bundle_rules.specs.declared.bundle.Bundle.{Bundle}
use Rattle.bundle_rules.specs.Bundles.{sections_of}
use Rattle.demand_api.specs.Crowds.{holders}

-- one more at the section where the bundle has it, and no change where not
abbrev pub HasCounted : List ℕ → List ℕ → List ℕ → ℕ → Type 0
HasCounted before after bundle s =
    slice_index after s ≡ slice_index before s + (if has bundle s then 1 else 0)

-- each bundle is one of sections below this number
abbrev pub AreWithin : ℕ → List (List ℕ) → Type 0
AreWithin sections bundles = (i s : ℕ) → has (slice_index_or bundles i []) s ≡ true → s < sections

-- for each section how many of these bundles have it
pub record AreCounts (sections : ℕ) (bundles : List (List ℕ)) (counts : List ℕ) : Type 0 where
  pub len : length counts ≡ sections
  pub each : (s : ℕ) → s < sections → slice_index counts s ≡ holders s bundles

-- at most 2,000 bundles of sections below this number, and their counts
pub record IsTally (sections : ℕ) (bundles : List Bundle) (counts : List ℕ) : Type 0 where
  pub few : length bundles ≤ MAX_STUDENTS
  pub within : AreWithin sections (map sections_of bundles)
  pub counted : AreCounts sections (map sections_of bundles) counts
