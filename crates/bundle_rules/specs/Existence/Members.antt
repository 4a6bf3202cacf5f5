-- Sets as ascending lists.
use Rattle.std.proofs.Common.{◌≡◌, ◌↔◌, ◌<◌, ◌++◌, ◌⊎◌, ℕ, zero, suc, true, true≢false, ◌==◌, List, [], ◌∷◌, All, length, map, inl, inr, arith, refl, sym, subst}
use Rattle.std.proofs.lemmas.Bool.{cases_Bool, or_right}
use Rattle.std.proofs.lemmas.Bool.Decides.{nat_tests}
use Rattle.market_units.specs.Members.{has}
use Rattle.bundle_rules.specs.Sets.{AllAbove, IsAscending}

-- a section is above each of these
abbrev pub AllBelow : ℕ → List ℕ → Type 0
AllBelow s [] = Unit {0}
AllBelow s (t ∷ ts) = (t < s) × AllBelow s ts

pub AllAbove-front : (s : ℕ) (xs ys : List ℕ) → AllAbove s (xs ++ ys) → AllAbove s xs
AllAbove-front s [] ys above = tt
AllAbove-front s (x ∷ xs) ys above = (above.0, AllAbove-front s xs ys above.1)

-- a front of a set is a set
pub IsAscending-front : (xs ys : List ℕ) → IsAscending (xs ++ ys) → IsAscending xs
IsAscending-front [] ys up = tt
IsAscending-front (x ∷ xs) ys up = (AllAbove-front x xs ys up.0, IsAscending-front xs ys up.1)

-- one more at the end
pub AllAbove-more : (s : ℕ) (xs : List ℕ) (t : ℕ) → AllAbove s xs → s < t
    → AllAbove s (xs ++ t ∷ [])
AllAbove-more s [] t above low = (low, tt)
AllAbove-more s (x ∷ xs) t above low = (above.0, AllAbove-more s xs t above.1 low)

pub last_above : (s : ℕ) (xs : List ℕ) (t : ℕ) → AllAbove s (xs ++ t ∷ []) → s < t
last_above s [] t above = above.0
last_above s (x ∷ xs) t above = last_above s xs t above.1

-- what is above the last section is above each
pub IsAscending-last : (xs : List ℕ) (s t : ℕ) → IsAscending (xs ++ s ∷ []) → s < t
    → IsAscending ((xs ++ s ∷ []) ++ t ∷ [])
IsAscending-last [] s t up low = ((low, tt), (tt, tt))
IsAscending-last (x ∷ xs) s t up low = (AllAbove-more x (xs ++ s ∷ []) t up.0 (let h : x < s = last_above x xs s up.0 in omega arith), IsAscending-last xs s t up.1 low)

pub last_below : (xs : List ℕ) (s t : ℕ) → IsAscending ((xs ++ s ∷ []) ++ t ∷ []) → s < t
last_below [] s t up = up.0.0
last_below (x ∷ xs) s t up = last_below xs s t up.1

-- what was not ascending at its end is not ascending
pub below_last : (xs : List ℕ) (s t : ℕ) → IsAscending (xs ++ s ∷ [])
    → (s < t) ↔ IsAscending ((xs ++ s ∷ []) ++ t ∷ [])
below_last xs s t up = (IsAscending-last xs s t up, last_below xs s t)

-- members of a set, by its first section and the rest
pub has-here : (s : ℕ) (ss : List ℕ) → has (s ∷ ss) s ≡ true
has-here s ss = let here : (s == s) ≡ true = grind (arith, nat_tests) in rw here refl

pub has-there : (t : ℕ) (ss : List ℕ) (s : ℕ) → has ss s ≡ true → has (t ∷ ss) s ≡ true
has-there t ss s is = or_right (t == s) (has ss s) is

pub has-cases : (t : ℕ) (ss : List ℕ) (s : ℕ) → has (t ∷ ss) s ≡ true → (t ≡ s) ⊎ (has ss s ≡ true)
has-cases t ss s is = elim (cases_Bool (t == s)) [
  | inl here ↦ inl (grind (arith, nat_tests))
  | inr not ↦ inr (rw not at is)
]

pub has-above : (s : ℕ) (ss : List ℕ) (t : ℕ) → AllAbove s ss → has ss t ≡ true → s < t
has-above s [] t above is = absurd (true≢false (sym is))
has-above s (x ∷ xs) t above is = elim (has-cases x xs t is) [
  | inl here ↦ let low : s < x = above.0 in omega arith
  | inr there ↦ has-above s xs t above.1 there
]

-- a fact of each place of what a list is mapped to
pub all_of_has : (P : ℕ → Type 0) (f : ℕ → ℕ) (ss : List ℕ) → ((s : ℕ) → has ss s ≡ true → P (f s))
    → All P (map f ss)
all_of_has P f [] each k d low = absurd (omega arith)
all_of_has P f (s ∷ ss) each zero d low = each s (has-here s ss)
all_of_has P f (s ∷ ss) each (suc k) d low =
    all_of_has P f ss (λ t is. each t (has-there s ss t is)) k d (omega arith)

pub has_of_all : (P : ℕ → Type 0) (f : ℕ → ℕ) (ss : List ℕ) → All P (map f ss) → (s : ℕ)
    → has ss s ≡ true → P (f s)
has_of_all P f [] all s is = absurd (true≢false (sym is))
has_of_all P f (x ∷ xs) all s is = elim (has-cases x xs s is) [
  | inl here ↦ subst (λ t. P (f t)) here (all 0 (f x) (omega arith))
  | inr there ↦ has_of_all P f xs (λ k d low. all (suc k) d (let h : suc k < suc (length (map f xs)) = omega arith in h)) s there
]

AllAbove-middle : (s : ℕ) (xs : List ℕ) (t : ℕ) (ys : List ℕ) → AllAbove s (xs ++ t ∷ ys)
    → AllAbove s (xs ++ ys)
AllAbove-middle s [] t ys above = above.1
AllAbove-middle s (x ∷ xs) t ys above = (above.0, AllAbove-middle s xs t ys above.1)

-- a set stays one without a section
pub IsAscending-middle : (xs : List ℕ) (t : ℕ) (ys : List ℕ) → IsAscending (xs ++ t ∷ ys)
    → IsAscending (xs ++ ys)
IsAscending-middle [] t ys up = up.1
IsAscending-middle (x ∷ xs) t ys up =
    (AllAbove-middle x xs t ys up.0, IsAscending-middle xs t ys up.1)

-- members of two lists, one after the other
pub has-append_left : (xs ys : List ℕ) (s : ℕ) → has xs s ≡ true → has (xs ++ ys) s ≡ true
has-append_left [] ys s is = absurd (true≢false (sym is))
has-append_left (x ∷ xs) ys s is = elim (has-cases x xs s is) [
  | inl here ↦ subst (λ t. has (x ∷ (xs ++ ys)) t ≡ true) here (has-here x (xs ++ ys))
  | inr there ↦ has-there x (xs ++ ys) s (has-append_left xs ys s there)
]

-- what stands after a front is a set
pub IsAscending-rest : (xs ys : List ℕ) → IsAscending (xs ++ ys) → IsAscending ys
IsAscending-rest [] ys up = up
IsAscending-rest (x ∷ xs) ys up = IsAscending-rest xs ys up.1
