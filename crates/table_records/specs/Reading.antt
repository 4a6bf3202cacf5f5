-- What the records of a table say: its rows, or the refusal of the first bad record at its first
-- bad column.
use Rattle.std.specs.Prelude.{◌≡◌, ◌≤◌, ℕ, ◌+◌, ◌-◌, Bool, true, ◌&&◌, ◌==◌, if◌then◌else◌, nat_le, List, [], ◌∷◌, ◌++◌, length, map, Option, Some, None, option_map, position, slice_index_or, Result, Ok, Err}
use Rattle.std.specs.Cmp.Lexicographic.{pointwise}
use Rattle.std.specs.Str.{bytes_eq}
use Rattle.market_units.specs.declared.names.Name.{Name}
use Rattle.market_units.specs.Name.{name_bytes}
use Rattle.table_records.specs.declared.fault.Fault.{Fault}
use Rattle.table_records.specs.declared.fault.Fault.TheVariants as fault
use Rattle.table_records.specs.declared.fault.End.{End}
use Rattle.table_records.specs.declared.fault.End.TheVariants as end
use Rattle.table_records.specs.Columns.{is_name}
use Rattle.table_records.specs.Records.{first_field}

-- The rules of a table. R is what a row means, E is why a text is refused.
pub record Rules (R E : Type 0) : Type 0 where
  -- the headers of its versions, from version 1 on: the fields that record 1 may be
  pub headers : List (List (List ℕ))
  -- the greatest number of rows, with the refusal of one more
  pub most : Option (ℕ × E)
  -- whether a row may have this name
  pub knows : List ℕ → Bool
  -- the refusal of a fault in no later column than the first
  pub refusal : Fault → E
  -- the row that these fields are in a table of this version, under this number, or the refusal of
  -- their first bad column after the first
  pub row : ℕ → ℕ → List (List ℕ) → Result R E

-- The rules of a table of two versions, the second with one column more than this header. A row may
-- have any name, and there are at most so many rows.
abbrev pub naming_rules : {R E : Type 0} → List (List ℕ) → List ℕ → ℕ × E → (Fault → E)
    → (ℕ → ℕ → List (List ℕ) → Result R E) → Rules R E
naming_rules header column most refused row = record {
  headers = header ∷ (header ++ column ∷ []) ∷ [];
  most = Some most;
  knows = λ name. true;
  refusal = refused;
  row = row;
}

-- what a table says: its version, which is that of its header, and its rows
pub record TableData (R : Type 0) : Type 0 where
  pub version : ℕ
  pub rows : List R

-- a version that a table of these headers may have
pub record IsVersion (headers : List (List (List ℕ))) (version : ℕ) : Type 0 where
  pub first : 1 ≤ version
  pub last : version ≤ length headers

-- the header of a version
abbrev pub header_of : List (List (List ℕ)) → ℕ → List (List ℕ)
header_of headers version = slice_index_or headers (version - 1) []

-- the version of the header that a record is: the first of its fields, if any
abbrev pub version_of : List (List (List ℕ)) → List (List ℕ) → Option ℕ
version_of headers fields =
    option_map (λ place. place + 1) (position (pointwise bytes_eq fields) headers)

-- the refusal of one more row, where as many came before as the table may have
abbrev pub refusal_if_full : {E : Type 0} → Option (ℕ × E) → ℕ → Option E
refusal_if_full None rows = None
refusal_if_full (Some most) rows = if nat_le most.0 rows then Some most.1 else None

-- the first of these refusals, and where there is none, the answer
abbrev pub unless : {R E : Type 0} → List (Option E) → Result R E → Result R E
unless [] answer = answer
unless (Some refusal ∷ more) answer = Err refusal
unless (None ∷ more) answer = unless more answer

-- the rows, with this one before them
abbrev pub with_row : {R E : Type 0} → R → Result (List R) E → Result (List R) E
with_row row (Ok rows) = Ok (row ∷ rows)
with_row row (Err refusal) = Err refusal

-- the row of each answer, or the first refusal among them
abbrev pub rows_or_first_refusal : {R E : Type 0} → List (Result R E) → Result (List R) E
rows_or_first_refusal [] = Ok []
rows_or_first_refusal (Ok row ∷ more) = with_row row (rows_or_first_refusal more)
rows_or_first_refusal (Err refusal ∷ more) = Err refusal

-- the rows of a table of this version, or the refusal
abbrev pub with_version : {R E : Type 0} → ℕ → Result (List R) E → Result (TableData R) E
with_version version (Ok rows) = Ok (record { version = version; rows = rows })
with_version version (Err refusal) = Err refusal

-- `version` is the table's, and `names` are those of the earlier rows
module _ {R E : Type 0} (rules : Rules R E) (version : ℕ) where
  -- the number of the record after these rows and the header, the header's being 1
  abbrev pub row_after : List (List ℕ) → ℕ
  row_after names = length names + 2

  -- one row too many
  abbrev pub surplus : List (List ℕ) → Option E
  surplus names = refusal_if_full rules.most (length names)

  -- another number of fields than the header's
  abbrev pub other_width : List (List ℕ) → List (List ℕ) → Option E
  other_width names fields =
      if length fields == length (header_of rules.headers version) then None
      else Some (rules.refusal (fault.Fields (row_after names)))

  -- column 1 is no name that a row may have
  abbrev pub no_name : List (List ℕ) → List (List ℕ) → Option E
  no_name names fields =
      if is_name (first_field fields) && rules.knows (first_field fields) then None
      else Some (rules.refusal (fault.Name (row_after names)))

  -- column 1 is the name of an earlier row, the first of which is told
  abbrev pub repeat : List (List ℕ) → List (List ℕ) → Option E
  repeat names fields =
      option_map (λ place. rules.refusal (fault.Repeated (row_after names) (place + 2)))
      (position (bytes_eq (first_field fields)) names)

  -- what a record says: its row, or the refusal of its first fault
  abbrev pub answer_to : List (List ℕ) → List (List ℕ) → Result R E
  answer_to names fields =
      unless
      (surplus names ∷ other_width names fields ∷ no_name names fields ∷ repeat names fields
      ∷ [])
      (rules.row version (row_after names) fields)

  -- what each record says, after rows of these names and the records before it
  abbrev pub answers : List (List ℕ) → List (List (List ℕ)) → List (Result R E)
  answers names [] = []
  answers names (fields ∷ more) =
      answer_to names fields ∷ answers (names ++ first_field fields ∷ []) more

-- what the records after the header say, where the header is of this version; without a version
-- there is no header
abbrev pub reading_under : {R E : Type 0} → Rules R E → Option ℕ → List (List (List ℕ))
    → Result (TableData R) E
reading_under rules None later = Err (rules.refusal fault.Header)
reading_under rules (Some version) later =
    with_version version (rows_or_first_refusal (answers rules version [] later))

-- what a table's records say: its version and rows, or the refusal of the first bad record
abbrev pub reading : {R E : Type 0} → Rules R E → List (List (List ℕ)) → Result (TableData R) E
reading rules [] = Err (rules.refusal fault.Header)
reading rules (first ∷ later) = reading_under rules (version_of rules.headers first) later

-- an end tells the refusal that a reading gives, or else memory was wanted
abbrev pub Tells : {R E : Type 0} → Result R E → End E → Type 0
Tells answer end.NoMemory = Unit {0}
Tells answer (end.Refused refusal) = answer ≡ Err refusal

-- the bytes of each name
abbrev pub bytes_of : List Name → List (List ℕ)
bytes_of names = map name_bytes names
