-- Lists of sections as lists of their ordinals.
use Rattle.std.specs.Prelude.{ℕ, ◌≤◌, List, map, length}
use Rattle.market_units.specs.declared.limits.TheConstants.{MAX_COURSES}
use Rattle.market_units.specs.declared.units.SectionNo.{SectionNo}
use Rattle.bundle_rules.specs.Sets.{IsAscending}

-- the ordinals of these sections
abbrev pub ordinals : List SectionNo → List ℕ
ordinals sections = map (λ section. section.0) sections

-- at most 8 sections, strictly ascending
pub record IsBundle (sections : List ℕ) : Type 0 where
  pub few : length sections ≤ MAX_COURSES
  pub ascending : IsAscending sections
