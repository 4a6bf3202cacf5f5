-- What the lines of a text are.
use Rattle.std.specs.Prelude.{ℕ, ◌==◌, if◌then◌else◌, List, [], ◌∷◌, length, map}
use Rattle.std.specs.List.{slice_split}
use Rattle.std.specs.Str.Lines.{strip_carriage_return}

-- the parts, but for an empty last one: behind the last line feed no line begins
abbrev pub without_empty_last : List (List ℕ) → List (List ℕ)
without_empty_last [] = []
without_empty_last (part ∷ []) = if length part == 0 then [] else part ∷ []
without_empty_last (part ∷ next ∷ more) = part ∷ without_empty_last (next ∷ more)

-- the lines of a text: what stands between its line feeds, each without the one carriage return at
-- its end
abbrev pub lines_of : List ℕ → List (List ℕ)
lines_of text =
    map strip_carriage_return (without_empty_last (slice_split (λ byte. byte == 10) text))
