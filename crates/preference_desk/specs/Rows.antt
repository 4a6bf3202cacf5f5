-- Rows of entries in the order of their keys.
use Rattle.std.specs.Prelude.{ℕ, ℤ, ◌<◌, ◌≤◌, IsTrue, List, All, length, map, unsigned_abs}
use Rattle.std.specs.Ordering.{nat_cmp}
use Rattle.std.specs.FinMap.{is_sorted}
use Rattle.market_units.specs.declared.limits.TheConstants.{MAX_ADJUSTMENT, MAX_PAIRS, MAX_RATING, MAX_RATINGS}
use Rattle.market_units.specs.declared.units.SectionNo.{SectionNo}
use Rattle.preference_desk.specs.StudentPreferences.{pair_cmp}

-- a section and its rating
abbrev pub rating_entry : (SectionNo × ℕ) → ℕ × ℕ
rating_entry rated = (rated.0.0, rated.1)

-- a pair of sections and its adjustment
abbrev pub pair_entry : (SectionNo × SectionNo × ℤ) → (ℕ × ℕ) × ℤ
pair_entry adjusted = ((adjusted.0.0, adjusted.1.0), adjusted.2)

-- a rating from 1 to 100
abbrev pub IsRating : (SectionNo × ℕ) → Type 0
IsRating rated = (1 ≤ rated.1) × (rated.1 ≤ MAX_RATING)

-- an adjustment from -200 to 200 other than 0, the lower section first
abbrev pub IsAdjustment : (SectionNo × SectionNo × ℤ) → Type 0
IsAdjustment adjusted =
    (adjusted.0.0 < adjusted.1.0) × (1 ≤ unsigned_abs adjusted.2)
    × (unsigned_abs adjusted.2 ≤ unsigned_abs MAX_ADJUSTMENT)

-- at most 60 ratings, sections ascending
pub record AreRatings (items : List (SectionNo × ℕ)) : Type 0 where
  pub sorted : IsTrue (is_sorted nat_cmp (map rating_entry items))
  pub few : length items ≤ MAX_RATINGS
  pub each : All IsRating items

-- at most 200 adjustments, pairs ascending
pub record ArePairs (items : List (SectionNo × SectionNo × ℤ)) : Type 0 where
  pub sorted : IsTrue (is_sorted pair_cmp (map pair_entry items))
  pub few : length items ≤ MAX_PAIRS
  pub each : All IsAdjustment items
