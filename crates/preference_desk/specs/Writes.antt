-- A write at a key's place in a row.
use Rattle.std.specs.Prelude.{ℕ, Bool, true, false, not, ◌&&◌, nat_le, Option, None, Some, is_some, List, set, length}
use Rattle.std.specs.List.{insert, remove}

-- the row with this entry at the place, in place of the one that stands there where one does; no
-- entry takes out what stands there
abbrev pub written : {E : Type 0} → List E → ℕ → Bool → Option E → List E
written items place true (Some entry) = set items place entry
written items place true None = remove items place
written items place false (Some entry) = insert items place entry
written items place false None = items

-- whether a row of at most so many entries has room for the write: only one more entry wants room
abbrev pub has_room : {E : Type 0} → ℕ → List E → Bool → Option E → Bool
has_room limit items stands entry = not (is_some entry && not stands && nat_le limit (length items))
