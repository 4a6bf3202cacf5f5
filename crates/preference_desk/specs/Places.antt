-- The place of a key in a row of entries in the order of their keys.
use Rattle.std.specs.Prelude.{ℕ, suc, Bool, false, List, [], ◌∷◌, if◌then◌else◌}
use Rattle.std.specs.Ordering.{is_le, is_eq}
use Rattle.std.specs.declared.cmp.Ordering.{Ordering}

-- the place of the first entry whose key is not below this one, or the length
abbrev pub place_in : {K X : Type 0} → (K → K → Ordering) → K → List (K × X) → ℕ
place_in R k [] = 0
place_in R k (e ∷ es) = if is_le (R k e.0) then 0 else suc (place_in R k es)

-- whether the key stands at its place
abbrev pub stands : {K X : Type 0} → (K → K → Ordering) → K → List (K × X) → Bool
stands R k [] = false
stands R k (e ∷ es) = if is_le (R k e.0) then is_eq (R k e.0) else stands R k es
