-- Numbers that are among others.
use Rattle.std.proofs.Common.{◌≡◌, ◌≢◌, ◌≤◌, ◌<◌, ◌||◌, ◌==◌, ◌⊎◌, ◌++◌, ℕ, zero, suc, Bool, true, false, List, [], ◌∷◌, All, length, get_or, inl, inr, arith, refl, ap}
use Rattle.std.specs.Prelude.{Some}
use Rattle.std.specs.List.{find}
use Rattle.std.proofs.lemmas.Bool.{cases_Bool, eq-eqb, false≢true, ne_eqb, or_from, or_left, or_right}
use Rattle.std.proofs.lemmas.Bool.Decides.{nat_tests}
use Rattle.market_units.specs.Members.{has}
use Rattle.market_units.specs.Totals.{total}

-- what stands at a place
pub has_at : (xs : List ℕ) (k d : ℕ) → k < length xs → has xs (get_or xs k d) ≡ true
has_at [] k d low = absurd (omega arith)
has_at (x ∷ xs) zero d low = or_left (x == x) (has xs x) (eq-eqb x x refl)
has_at (x ∷ xs) (suc k) d low = or_right (x == get_or xs k d) (has xs (get_or xs k d)) (has_at xs k d (omega arith))

-- one more at the end
pub has_push_same : (xs : List ℕ) (x : ℕ) → has (xs ++ x ∷ []) x ≡ true
has_push_same [] x = or_left (x == x) false (eq-eqb x x refl)
has_push_same (y ∷ ys) x = or_right (y == x) (has (ys ++ x ∷ []) x) (has_push_same ys x)

pub has_push_other : (xs : List ℕ) (x q : ℕ) → x ≢ q → has (xs ++ x ∷ []) q ≡ has xs q
has_push_other [] x q apart = or_from (x == q) false (ne_eqb x q apart) refl
has_push_other (y ∷ ys) x q apart = ap (λ b. (y == q) || b) (has_push_other ys x q apart)

pub has_push : (xs : List ℕ) (x q : ℕ) → has (xs ++ x ∷ []) q ≡ true → (has xs q ≡ true) ⊎ (x ≡ q)
has_push [] x q is = elim (cases_Bool (x == q)) [ inl same ↦ inr (let it : x ≡ q = grind (arith, nat_tests) in it) | inr other ↦ absurd (false≢true (rw other at is)) ]
has_push (y ∷ ys) x q is = elim (cases_Bool (y == q)) [
  | inl here ↦ inl (or_left (y == q) (has ys q) here)
  | inr other ↦ elim (has_push ys x q (rw other at is)) [ inl before ↦ inl (or_right (y == q) (has ys q) before) | inr last ↦ inr last ]
]

-- what holds of each member holds at each place
pub all_within : (n : ℕ) (xs : List ℕ) → ((x : ℕ) → has xs x ≡ true → x < n) → All (λ x. x < n) xs
all_within n xs each = λ k d low. each (get_or xs k d) (has_at xs k d low)

-- what is found is a member
pub found_in : (p : ℕ → Bool) (xs : List ℕ) (x : ℕ) → find p xs ≡ Some x → has xs x ≡ true
found_in p [] x found = absurd (cc found)
found_in p (y ∷ ys) x found = elim (cases_Bool (p y)) [
  | inl is ↦ let here : Some y ≡ Some x = rw is at found in let same : y ≡ x = cc in or_left (y == x) (has ys x) (eq-eqb y x same)
  | inr other ↦ let rest : find p ys ≡ Some x = rw other at found in or_right (y == x) (has ys x) (found_in p ys x rest)
]

-- a sum is at least what one of its members adds
pub member_total : (f : ℕ → ℕ) (xs : List ℕ) (x : ℕ) → has xs x ≡ true → f x ≤ total f xs
member_total f [] x is = absurd (false≢true is)
member_total f (y ∷ ys) x is = elim (cases_Bool (y == x)) [
  | inl here ↦ let it : y ≡ x = grind (arith, nat_tests) in let same : f y ≡ f x = ap f it in omega arith
  | inr other ↦ let rest : f x ≤ total f ys = member_total f ys x (rw other at is) in omega arith
]
