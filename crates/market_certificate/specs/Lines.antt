-- Lines of a text: each ends with one line feed.
use Rattle.std.specs.Prelude.{ℕ, ◌≡◌, ◌==◌, ◌++◌, false, List, [], ◌∷◌, All}
use Rattle.std.specs.List.{join_with_byte}

-- bytes without this one
abbrev pub Lacks : ℕ → List ℕ → Type 0
Lacks stop bytes = All (λ byte. (byte == stop) ≡ false) bytes

-- lines as a text, each with its line feed
abbrev pub joined : List (List ℕ) → List ℕ
joined [] = []
joined (line ∷ lines) = line ++ 10 ∷ joined lines

-- the fields of a line, with one space between each two
abbrev pub spaced : List (List ℕ) → List ℕ
spaced fields = join_with_byte 32 fields
