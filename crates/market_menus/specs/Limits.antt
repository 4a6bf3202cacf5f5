-- The preferences that a desk lets a student have, and the menus of students with such.
use Rattle.std.specs.Prelude.{ℕ, ℤ, ◌≡◌, ◌≤◌, List, All, length, unsigned_abs}
use Rattle.std.specs.FinMap.{entries}
use Rattle.market_units.specs.declared.limits.TheConstants.{MAX_ADJUSTMENT, MAX_PAIRS, MAX_RATING, MAX_RATINGS}
use Rattle.bundle_rules.specs.Menus.{MenuData}
use Rattle.course_catalog.specs.Catalog.{CatalogData, IsCatalog}
use Rattle.preference_desk.specs.StudentPreferences.{SectionsBelow, StudentPreferences}
use Rattle.student_roll.specs.Students.{IsRoll, RollData}
use Rattle.market_menus.specs.MenusOf.{AreMenusOf}
use Rattle.market_menus.specs.Wanted.{HasLowerFirst}

-- at most 60 ratings, each from 1 to 100, and at most 200 adjustments, each from -200 to 200 and
-- not 0
pub record IsLimited (wanted : StudentPreferences) : Type 0 where
  pub few_ratings : length (entries wanted.ratings) ≤ MAX_RATINGS
  pub ratings : All (λ (rated : ℕ × ℕ). (1 ≤ rated.1) × (rated.1 ≤ MAX_RATING))
      (entries wanted.ratings)
  pub few_pairs : length (entries wanted.pairs) ≤ MAX_PAIRS
  pub adjustments : All
      (λ (adjusted : (ℕ × ℕ) × ℤ).
      (1 ≤ unsigned_abs adjusted.1) × (unsigned_abs adjusted.1 ≤ unsigned_abs MAX_ADJUSTMENT))
      (entries wanted.pairs)

-- within these limits, of sections below this number, and with the lower section of each pair first
pub record MayBeHad (sections : ℕ) (wanted : StudentPreferences) : Type 0 where
  pub known : SectionsBelow sections wanted
  pub lower_first : HasLowerFirst wanted
  pub limits : IsLimited wanted

-- the students of a roll have menus, where each has such preferences
abbrev pub EachHasAMenu : Type 0
EachHasAMenu =
    (catalog : CatalogData) (roll : RollData) (preferences : List StudentPreferences)
    → IsCatalog catalog → IsRoll roll → length preferences ≡ length roll.students
    → All (MayBeHad (length catalog.sections)) preferences
    → (menus : List MenuData) × AreMenusOf catalog.sections roll.students preferences menus
