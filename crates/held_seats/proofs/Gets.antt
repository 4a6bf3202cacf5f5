-- Items of a list that one of them is written into.
use Rattle.std.proofs.Common.{ℕ, zero, suc, ◌≡◌, ◌≢◌, ◌<◌, List, [], ◌∷◌, length, Some, None, arith, refl, ap}
use Rattle.std.specs.Prelude.{slice_get, slice_set}
pub use Rattle.demand_api.proofs.Holders.{holders_set}

pub get-set_same : {X : Type 0} (xs : List X) (i : ℕ) (a : X) → i < length xs → slice_get (slice_set xs i a) i ≡ Some a
get-set_same [] i a low = absurd (omega arith)
get-set_same (x ∷ xs) zero a low = refl
get-set_same (x ∷ xs) (suc i) a low = get-set_same xs i a (omega arith)

pub get-set_other : {X : Type 0} (xs : List X) (i j : ℕ) (a : X) → j ≢ i → slice_get (slice_set xs i a) j ≡ slice_get xs j
get-set_other [] i j a apart = refl
get-set_other (x ∷ xs) zero zero a apart = absurd (apart refl)
get-set_other (x ∷ xs) zero (suc j) a apart = refl
get-set_other (x ∷ xs) (suc i) zero a apart = refl
get-set_other (x ∷ xs) (suc i) (suc j) a apart = get-set_other xs i j a (λ e. apart (ap (λ k. suc k) e))

-- the item that is there, written again
pub set_again : {X : Type 0} (xs : List X) (i : ℕ) (a : X) → slice_get xs i ≡ Some a → slice_set xs i a ≡ xs
set_again [] i a is = refl
set_again (x ∷ xs) zero a is = let e : x ≡ a = cc is in ap (λ y. y ∷ xs) (let f : a ≡ x = cc in f)
set_again (x ∷ xs) (suc i) a is = ap (λ ys. x ∷ ys) (set_again xs i a is)

-- an item past the end is not written
pub set_past : {X : Type 0} (xs : List X) (i : ℕ) (a : X) → slice_get xs i ≡ None → slice_set xs i a ≡ xs
set_past [] i a is = refl
set_past (x ∷ xs) zero a is = absurd (cc is)
set_past (x ∷ xs) (suc i) a is = ap (λ ys. x ∷ ys) (set_past xs i a is)
