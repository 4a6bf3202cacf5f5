-- Versions that were foreseen, and what is asked for.
use Rattle.std.specs.Prelude.{ℕ, ◌<◌, ◌≤◌, ◌≡◌, ◌+◌, List, [], length, slice_index_or}
use Rattle.market_units.specs.declared.units.Tokens.{Tokens}

-- behind the first so many versions come those of the batch
pub record AreNext (versions : List (List Tokens)) (done : ℕ) (batch : List (List Tokens))
    : Type 0 where
  pub within : done + length batch ≤ length versions
  pub same : (v : ℕ) → v < length batch
      → slice_index_or versions (done + v) [] ≡ slice_index_or batch v []
