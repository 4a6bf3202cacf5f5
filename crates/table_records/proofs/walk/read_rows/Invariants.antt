use Rattle.std.proofs.Common.{ℕ, List, ◌∷◌}
use Rattle.table_records.specs.Walk.{HasGiven}
use Rattle.table_records.proofs.WalkFacts.{HasRead}
use Rattle.table_records.proofs.walk.read_rows.Given as goal

-- the header and some records were given, and those records are the rows
abbrev pub invariant-loop-next : goal.invariant-loop-next
invariant-loop-next g l =
    (first : List (List ℕ)) × (later : List (List (List ℕ))) × HasGiven l.text l.next-iterator (first ∷ later)
    × HasRead (g.T.Table.rules l.table) g.T.Table.name_of g.T.Table.is_row first later l.rows
