-- The names that the desk knows, and their ordinals.
use Rattle.std.specs.Prelude.{ℕ, Bool, List}
use Rattle.std.specs.List.{list_any, position_or_len}
use Rattle.std.specs.Str.{bytes_eq}
use Rattle.market_units.specs.declared.names.Name.{Name}
use Rattle.market_units.specs.Name.{name_bytes}

-- the names of the roll's students and of the catalogue's sections, in file order
pub record DeskNames : Type 0 where
  pub students : List (List ℕ)
  pub sections : List (List ℕ)

-- whether the name is one of these
abbrev pub has_name : List (List ℕ) → Name → Bool
has_name names name = list_any (bytes_eq (name_bytes name)) names

-- the ordinal of a name that is one of these
abbrev pub ordinal_of : List (List ℕ) → Name → ℕ
ordinal_of names name = position_or_len (bytes_eq (name_bytes name)) names
