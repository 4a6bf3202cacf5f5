-- Lines, and the texts that they make.
use Rattle.std.specs.Prelude.{ℕ, List, [], ◌∷◌, ◌++◌}
use Rattle.std.specs.List.{flat_map, join_with_byte, range_with_len}

-- the fields of a table's row, with one comma between each two
abbrev pub row_of : List (List ℕ) → List ℕ
row_of fields = join_with_byte 44 fields

-- the words of a command, with one space between each two
abbrev pub command_of : List (List ℕ) → List ℕ
command_of words = join_with_byte 32 words

-- a line with its line feed
abbrev pub ended : List ℕ → List ℕ
ended line = line ++ 10 ∷ []

-- the text of these lines
abbrev pub text_of : List (List ℕ) → List ℕ
text_of lines = flat_map ended lines

-- the numbers from 1 to n
abbrev pub numbers_to : ℕ → List ℕ
numbers_to n = range_with_len 1 n
