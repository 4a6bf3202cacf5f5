-- Lists that merge other lists: each item has a number, which says the list that it comes from.
use Rattle.std.specs.Prelude.{ℕ, ◌==◌, List, [], ◌∷◌, if◌then◌else◌}

-- the items with this number, in their order
abbrev pub part_of : {A : Type 0} → (A → ℕ) → ℕ → List A → List A
part_of number n [] = []
part_of number n (x ∷ xs) = if number x == n then x ∷ part_of number n xs else part_of number n xs
