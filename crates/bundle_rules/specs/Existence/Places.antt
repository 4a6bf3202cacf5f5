-- What stands at the places of a menu.
use Rattle.std.proofs.Common.{◌≡◌, ◌<◌, ◌≤◌, ◌==◌, ℕ, zero, suc, List, [], ◌∷◌, length, All, Some, get_or, inl, inr, arith, refl}
use Rattle.std.specs.List.{slice_get}
use Rattle.std.proofs.lemmas.Bool.{cases_Bool, cases_lt}
use Rattle.std.proofs.lemmas.Bool.Decides.{nat_tests}
use Rattle.market_units.specs.declared.limits.TheConstants.{MAX_SECTIONS}
use Rattle.bundle_rules.specs.declared.menu.Rated.{Rated}
use Rattle.bundle_rules.specs.Menus.{section_at, course_at, rating_at, credits_at, place_in, IsRated}

-- what a place that was read holds
pub credits_at-is : (places : List Rated) (k : ℕ) (rated : Rated) → slice_get places k ≡ Some rated
    → credits_at places k ≡ rated.credits
credits_at-is [] k rated is = cc is
credits_at-is (r ∷ rs) zero rated is = cc is
credits_at-is (r ∷ rs) (suc k) rated is = credits_at-is rs k rated is

pub rating_at-is : (places : List Rated) (k : ℕ) (rated : Rated) → slice_get places k ≡ Some rated
    → rating_at places k ≡ rated.rating
rating_at-is [] k rated is = cc is
rating_at-is (r ∷ rs) zero rated is = cc is
rating_at-is (r ∷ rs) (suc k) rated is = rating_at-is rs k rated is

pub section_at-is : (places : List Rated) (k : ℕ) (rated : Rated) → slice_get places k ≡ Some rated
    → section_at places k ≡ rated.section.0
section_at-is [] k rated is = cc is
section_at-is (r ∷ rs) zero rated is = cc is
section_at-is (r ∷ rs) (suc k) rated is = section_at-is rs k rated is

-- past the last place nothing is rated
pub rating_at-past : (places : List Rated) (k : ℕ) → length places ≤ k → rating_at places k ≡ 0
rating_at-past [] k past = refl
rating_at-past (r ∷ rs) zero past = absurd (omega arith)
rating_at-past (r ∷ rs) (suc k) past = rating_at-past rs k (omega arith)

-- a rated place is on the menu
pub rated_on_menu : (places : List Rated) (k : ℕ) → 0 < rating_at places k → k < length places
rated_on_menu places k rated = elim (cases_lt k (length places)) [
  | inl low ↦ low
  | inr past ↦ let none : rating_at places k ≡ 0 = rating_at-past places k past in absurd (omega arith)
]

-- and each place of the menu is rated
pub on_menu_rated : (places : List Rated) (k : ℕ) → All IsRated places → k < length places
    → 0 < rating_at places k
on_menu_rated [] k all low = absurd (omega arith)
on_menu_rated (r ∷ rs) zero all low = let is : IsRated r = all 0 r (omega arith) in let h : 1 ≤ r.rating = is.rating_low in omega arith
on_menu_rated (r ∷ rs) (suc k) all low = on_menu_rated rs k (λ i d h. all (suc i) d (let g : suc i < suc (length rs) = omega arith in g)) (omega arith)

-- the section at the place of a section is that section
pub section_at-place_in : (places : List Rated) (s : ℕ) → place_in places s < length places
    → section_at places (place_in places s) ≡ s
section_at-place_in [] s low = absurd (omega arith)
section_at-place_in (r ∷ rs) s low = elim (cases_Bool (r.section.0 == s)) [
  | inl here ↦ rw here (grind (arith, nat_tests))
  | inr not ↦ rw not (section_at-place_in rs s (let h : suc (place_in rs s) < suc (length rs) = rw not at low in omega arith))
]

-- the section at a place is below 400
pub section_at-low : (places : List Rated) (k : ℕ) → All IsRated places → k < length places
    → section_at places k < MAX_SECTIONS
section_at-low [] k all low = absurd (omega arith)
section_at-low (r ∷ rs) zero all low = let is : IsRated r = all 0 r (omega arith) in is.section
section_at-low (r ∷ rs) (suc k) all low = section_at-low rs k (λ i d h. all (suc i) d (let g : suc i < suc (length rs) = omega arith in g)) (omega arith)

pub course_at-is : (places : List Rated) (k : ℕ) (d : Rated) → k < length places
    → course_at places k ≡ (get_or places k d).course
course_at-is [] k d low = absurd (omega arith)
course_at-is (r ∷ rs) zero d low = refl
course_at-is (r ∷ rs) (suc k) d low = course_at-is rs k d (omega arith)
