-- For callers of `close`: seats that stand at their numbers are all seats.
use Rattle.std.proofs.Common.{◌≡◌, ◌≤◌, ◌<◌, ◌∷◌, [], ℕ, zero, suc, List, length, refl, arith, slice_index_or}
use Rattle.std.specs.List.{Any}
use Rattle.chronicle.specs.declared.standing.Standing.{Standing}

-- what holds at an index holds of some item
pub any_at : {X : Type 0} (P : X → Type 0) (xs : List X) (n : ℕ) → n < length xs → ((d : X) → P (slice_index_or xs n d)) → Any P xs
any_at P [] n below at = absurd (omega arith)
any_at P (x ∷ xs) zero below at = (zero, x, below, refl, at x)
any_at P (x ∷ xs) (suc n) below at =
    let later = any_at P xs n (omega arith) at in
    let k : ℕ = later.0 in
    let low : k < length xs = later.2 in
    (suc k, later.1, (let m : ℕ = length xs in let goal : suc k < suc m = omega arith in goal), later.3, later.4)

-- each number below the count is the number of the seat at that place
pub all_at_their_numbers : {B S Q A : Type 0} (count : ℕ) (seats : List (Standing B S Q A)) → count ≤ length seats
    → ((n : ℕ) (d : Standing B S Q A) → n < count → (slice_index_or seats n d).number ≡ n)
    → (n : ℕ) → n < count → Any (λ (seat : Standing B S Q A). seat.number ≡ n) seats
all_at_their_numbers count seats enough at n below =
    any_at (λ seat. seat.number ≡ n) seats n (let goal : n < length seats = omega arith in goal) (λ d. at n d below)
