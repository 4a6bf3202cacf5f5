-- What a `Name` is seen as.
use Rattle.std.specs.Prelude.{ℕ, List, take}
use Rattle.market_units.specs.declared.names.Name.{Name}

-- the bytes of a name
abbrev pub name_bytes : Name → List ℕ
name_bytes name = take name.len name.room
