-- What a student wants: ratings of sections, and adjustments of pairs of sections.
use Rattle.std.specs.Prelude.{ℕ, ◌<◌, ◌==◌, if◌then◌else◌, min, max, ℤ, unsigned_abs, All}
use Rattle.std.specs.Ordering.{nat_cmp, on, then_cmp}
use Rattle.std.specs.declared.cmp.Ordering.{Ordering}
use Rattle.std.specs.FinMap.{FinMap, empty, entries, insert, remove}

-- pairs in the order of their first sections, and at equal ones of their second
abbrev pub pair_cmp : (ℕ × ℕ) → (ℕ × ℕ) → Ordering
pair_cmp = then_cmp (on (λ pair. pair.0) nat_cmp) (on (λ pair. pair.1) nat_cmp)

-- the rating of each section that has one, and the adjustment of each pair that has one; a pair has
-- the lower section first
pub record StudentPreferences : Type 0 where
  pub ratings : FinMap {K = ℕ} nat_cmp ℕ
  pub pairs : FinMap {K = ℕ × ℕ} pair_cmp ℤ

abbrev pub no_preferences : StudentPreferences
no_preferences = record { ratings = empty; pairs = empty }

-- the ratings, with this one for the section; 0 is none
abbrev pub with_rating : FinMap {K = ℕ} nat_cmp ℕ → ℕ → ℕ → FinMap {K = ℕ} nat_cmp ℕ
with_rating ratings section rating =
    if rating == 0 then remove ratings section else insert ratings section rating

-- two sections as an unordered pair
abbrev pub pair_of : ℕ → ℕ → ℕ × ℕ
pair_of a b = (min a b, max a b)

-- the adjustments, with this one for the pair; 0 is none
abbrev pub with_pair : FinMap {K = ℕ × ℕ} pair_cmp ℤ → ℕ × ℕ → ℤ → FinMap {K = ℕ × ℕ} pair_cmp ℤ
with_pair pairs pair n = if unsigned_abs n == 0 then remove pairs pair else insert pairs pair n

-- every section that is rated or adjusted is below this number
pub record SectionsBelow (n : ℕ) (wanted : StudentPreferences) : Type 0 where
  pub rated : All (λ (rated : ℕ × ℕ). rated.0 < n) (entries wanted.ratings)
  pub adjusted : All (λ (adjusted : (ℕ × ℕ) × ℤ). (adjusted.0.0 < n) × (adjusted.0.1 < n))
      (entries wanted.pairs)
