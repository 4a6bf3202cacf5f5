-- Rows, one after another.
use Rattle.std.proofs.Common.{ℕ, suc, ◌≡◌, ◌<◌, ◌+◌, ◌∙◌, List, [], ◌∷◌, length, map, slice_index_or, slice_set, refl, ap, sym, subst, arith, inl, inr}
use Rattle.std.specs.List.{range_with_len}
use Rattle.std.proofs.lemmas.Bool.{cases_eq}
use Rattle.std.proofs.lemmas.List.{get_or-set_other, get_or-set_same}

-- what holds of the items so far, and of the next one, holds of one more
pub each_written : {X : Type 0} (P : ℕ → X → Type 0) (xs : List X) (k : ℕ) (y : X) → k < length xs → ((i : ℕ) (d : X) → i < k → P i (slice_index_or xs i d))
    → P k y
    → (i : ℕ) (d : X) → i < k + 1 → P i (slice_index_or (slice_set xs k y) i d)
each_written P xs k y low each next i d below = elim (cases_eq i k) [
  | inl here ↦ subst (λ j. P j (slice_index_or (slice_set xs k y) j d)) (sym here) (subst (P k) (sym (get_or-set_same xs k y d low)) next)
  | inr apart ↦ subst (P i) (sym (get_or-set_other xs k i y d apart)) (each i d (omega arith))
]

-- a list by its items
pub listed : {X Y : Type 0} (g : X → Y) (f : ℕ → Y) (xs : List X) (first : ℕ) → ((i : ℕ) (d : X) → i < length xs → g (slice_index_or xs i d) ≡ f (first + i))
    → map g xs ≡ map f (range_with_len first (length xs))
listed g f [] first each = refl
listed g f (x ∷ xs) first each =
    let here : g x ≡ f first = each 0 x (omega arith) ∙ ap f (let goal : first + 0 ≡ first = omega arith in goal) in
    let rest : map g xs ≡ map f (range_with_len (first + 1) (length xs)) =
    listed g f xs (first + 1)
    (λ i d low. each (suc i) d (let n : ℕ = length xs in let b : i < n = low in let goal : suc i < suc n = omega arith in goal)
    ∙ ap f (let goal : first + suc i ≡ first + 1 + i = omega arith in goal)) in
    λ j. here j ∷ rest j
