-- Subsets of the places of a list: a bit for each place, true where the place is in.
use Rattle.std.specs.Prelude.{Bool, true, false, List, [], ◌∷◌}

-- the first subset has the first place on which the two differ
abbrev pub earlier : List Bool → List Bool → Bool
earlier [] bs = false
earlier (a ∷ as') [] = false
earlier (true ∷ as') (true ∷ bs) = earlier as' bs
earlier (true ∷ as') (false ∷ bs) = true
earlier (false ∷ as') (true ∷ bs) = false
earlier (false ∷ as') (false ∷ bs) = earlier as' bs

-- the items of the places that are in
abbrev pub chosen : {A : Type 0} → List Bool → List A → List A
chosen [] xs = []
chosen (b ∷ bs) [] = []
chosen (true ∷ bs) (x ∷ xs) = x ∷ chosen bs xs
chosen (false ∷ bs) (x ∷ xs) = chosen bs xs
