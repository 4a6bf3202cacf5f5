-- What a student wants and may take.
use Rattle.std.specs.Prelude.{ℕ, ℤ, pos, ◌+ℤ◌, ◌<◌, ◌≤◌, ◌≡◌, ◌≢◌, Bool, true, false, List, [], ◌∷◌, length}
use Rattle.market_units.specs.Totals.{total, signed_total}
use Rattle.market_units.specs.Members.{has}
use Rattle.bundle_rules.specs.Sets.{IsAscending}

-- by ordinals of sections; a section that is not rated has the rating 0
pub record Wishes : Type 0 where
  pub rating : ℕ → ℕ
  pub adjustment : ℕ → ℕ → ℤ
  pub credits : ℕ → ℕ
  pub clash : ℕ → ℕ → Bool
  pub credit_cap : ℕ
  pub course_cap : ℕ

-- the adjustments of one section with each of the others
abbrev pub adjustments : Wishes → ℕ → List ℕ → ℤ
adjustments wishes s others = signed_total (wishes.adjustment s) others

-- the sum of a bundle's ratings, and of the adjustments of its unordered pairs
abbrev pub utility : Wishes → List ℕ → ℤ
utility wishes [] = pos 0
utility wishes (s ∷ ss) = (pos (wishes.rating s) +ℤ adjustments wishes s ss) +ℤ utility wishes ss

-- each section of the bundle is rated above 0
abbrev pub AllRated : Wishes → List ℕ → Type 0
AllRated wishes bundle = (s : ℕ) → has bundle s ≡ true → 0 < wishes.rating s

-- a set of rated sections of which no two clash, within the credit cap and the course cap
pub record IsFeasible (wishes : Wishes) (bundle : List ℕ) : Type 0 where
  pub set : IsAscending bundle
  pub rated : AllRated wishes bundle
  pub apart : (s t : ℕ) → has bundle s ≡ true → has bundle t ≡ true → s ≢ t
      → wishes.clash s t ≡ false
  pub credits : total wishes.credits bundle ≤ wishes.credit_cap
  pub courses : length bundle ≤ wishes.course_cap
