-- Columns of a table for tokens, which are counted in units.
use Rattle.std.specs.Prelude.{ℕ, ◌/◌, ◌^◌, min}

-- the column of so many tokens: how many whole units they have, and the last one where they have
-- more
abbrev pub column_of : ℕ → ℕ → ℕ
column_of shift tokens = min 63 (tokens / 2 ^ shift)
