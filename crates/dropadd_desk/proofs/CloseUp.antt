-- What stands behind a place is moved to a place before it.
use Rattle.std.proofs.Common.{◌≡◌, ◌≤◌, ◌+◌, ◌-◌, ◌++◌, ◌∙◌, ℕ, List, length, take, drop, sym, ap, arith}
use Rattle.std.specs.List.{copy_within, remove_range}
use Rattle.std.proofs.lemmas.List.{length-append, length-take-le, length-drop, take-take, take_at, drop-take}

-- the front is what it was without the items between the two places
pub closed_up : (cells : List ℕ) (start end len : ℕ) → start ≤ end → end ≤ len → len ≤ length cells
    → take (len - (end - start)) (copy_within cells end len start) ≡ remove_range (take len cells) start end
closed_up cells start end len order within inside =
    let n : ℕ = len - end in
    let size : ℕ = length cells in
    let front : List ℕ = take start cells in
    let moved : List ℕ = take n (drop end cells) in
    let front_size : length front ≡ start = length-take-le start cells (omega arith) in
    let behind : length (drop end cells) ≡ size - end = length-drop end cells in
    let moved_size : length moved ≡ n =
    length-take-le n (drop end cells) (let m : ℕ = length (drop end cells) in let h : m ≡ size - end = behind in let goal : n ≤ m = omega arith in goal) in
    let both : length (front ++ moved) ≡ len - (end - start) =
    (let a : ℕ = length front in let b : ℕ = length moved in let sum : length (front ++ moved) ≡ a + b = length-append front moved in let ha : a
    ≡ start = front_size in let hb : b ≡ n = moved_size in let goal : length (front ++ moved) ≡ len - (end - start) = omega arith in goal) in
    take_at (front ++ moved) (drop (start + n) cells) (len - (end - start)) both
    ∙ ap (λ l. l ++ moved) (sym (take-take start len cells (omega arith)))
    ∙ ap (λ l. take start (take len cells) ++ l) (sym (ap (λ m. drop end (take m cells)) (let e : len ≡ end + n = omega arith in e) ∙ drop-take end n cells))
