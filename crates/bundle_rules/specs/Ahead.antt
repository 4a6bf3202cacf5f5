-- Which of two sets has the lowest place on which they differ.
use Rattle.std.specs.Prelude.{ℕ, ◌<◌, ◌≡◌, ◌==◌, nat_lt, if◌then◌else◌, Bool, true, false, List, [], ◌∷◌}
use Rattle.market_units.specs.Members.{has}

-- the lowest place on which they differ is in the first, and below this limit
abbrev pub IsAhead : ℕ → List ℕ → List ℕ → Type 0
IsAhead limit champion chosen =
    (place : ℕ) × (place < limit) × (has champion place ≡ true) × (has chosen place ≡ false)
    × ((t : ℕ) → t < place → has champion t ≡ has chosen t)

-- the test of it, from the lowest places on
abbrev pub is_ahead : ℕ → List ℕ → List ℕ → Bool
is_ahead limit [] chosen = false
is_ahead limit (p ∷ ps) [] = nat_lt p limit
is_ahead limit (p ∷ ps) (c ∷ cs) = if p == c then is_ahead limit ps cs else nat_lt p c
