-- What was begun of a shelf, and which of it was read to its end.
use Rattle.std.specs.Prelude.{ℕ, ◌≡◌, Bool, true, false, List, [], ◌∷◌, ◌++◌, length, map, nat_le, Option, Some, None, ⊤}

-- a name whose text was begun, and whether it was read to its end
abbrev pub Opening : Type 0
Opening = List ℕ × Bool

-- Where a shelf tells its begun texts after a call, it told them before it too, and the call
-- changed the list so. It may stop telling.
abbrev pub Changes : Option (List Opening) → Option (List Opening) → (List Opening → List Opening)
    → Type 0
Changes old None change = ⊤
Changes None (Some new) change = ⊥
Changes (Some old) (Some new) change = new ≡ change old

-- behind these the text of this name is begun
abbrev pub with_begun : List ℕ → List Opening → List Opening
with_begun name openings = openings ++ (name, false) ∷ []

-- the last of these is read to its end
abbrev pub with_end : List Opening → List Opening
with_end [] = []
with_end (one ∷ []) = (one.0, true) ∷ []
with_end (one ∷ next ∷ more) = one ∷ with_end (next ∷ more)

-- nothing is begun or ended
abbrev pub as_before : List Opening → List Opening
as_before openings = openings

-- a text of this name that was read to its end
abbrev pub read_out : List ℕ → Opening
read_out name = (name, true)

-- behind these the texts of these names are begun and read to their ends, one after another
abbrev pub with_read_out : List (List ℕ) → List Opening → List Opening
with_read_out names openings = openings ++ map read_out names

-- the text of this name was begun, or that has failed
abbrev pub BeginsAtMost : Option (List Opening) → Option (List Opening) → List ℕ → Bool → Type 0
BeginsAtMost old new name true = Changes old new (with_begun name)
BeginsAtMost old new name false = Changes old new as_before

-- a shelf that told these begun texts tells on once the next one is begun, or that has failed: while
-- they are at most so many
abbrev pub tells_on : ℕ → Option (List Opening) → Bool
tells_on room None = false
tells_on room (Some openings) = nat_le (length openings) room
