-- What a region ends as, where a row is lent for writing.
use Rattle.std.specs.Prelude.{ℕ, List}
use Rattle.std.specs.Borrow.{Lends, Fml, RattleType, MutBor, Array}
use Rattle.row_region.specs.Rows.{Rows, with_row, rewritten}
use Rattle.row_region.specs.contracts.region.Region.{the_row}

-- once the borrow r of this row ends, the row holds what was written through r, and all other rows
-- stay
abbrev pub lends_row : (T : RattleType) → MutBor (Rows T.Denot) → ℕ → List T.Denot
    → MutBor (List T.Denot) → Fml
lends_row T region id row r =
    Lends (the_row T) (Array T 0) region r (λ cells. with_row region.now id (rewritten row cells))
