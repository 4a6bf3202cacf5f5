-- Sums over a list. They recur from the first item on, so that a proof by induction computes.
use Rattle.std.specs.Prelude.{ℕ, ◌+◌, ℤ, pos, ◌+ℤ◌, List, [], ◌∷◌}

-- f of each item, added up
abbrev pub total : {A : Type 0} → (A → ℕ) → List A → ℕ
total f [] = 0
total f (x ∷ xs) = f x + total f xs

-- a signed f of each item, added up
abbrev pub signed_total : {A : Type 0} → (A → ℤ) → List A → ℤ
signed_total f [] = pos 0
signed_total f (x ∷ xs) = f x +ℤ signed_total f xs
