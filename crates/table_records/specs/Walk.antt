-- The walk along a table's records: what it has read, and what a record adds to its names and rows.
use Rattle.std.specs.Prelude.{true, ℕ, ◌≡◌, ◌<◌, List, [], ◌∷◌, ◌++◌, Option, Some, IfNone, position, Ok}
use Rattle.std.specs.Borrow.{Bor}
use Rattle.std.specs.List.{IsDistinct}
use Rattle.std.specs.Str.{bytes_eq}
use Rattle.market_units.specs.declared.names.Name.{Name}
use Rattle.csv.specs.Reading.{Ready, Reached, default_config, is_flexible, owned_rows_left, owned_rows_reader, reader_config, reader_state, reader_trim, source_of, strip_bom}
use Rattle.csv.specs.declared.iter.ByteRecordsIntoIter.{ByteRecordsIntoIter}
use Rattle.csv.specs.declared.parser.State.TheVariants as st
use Rattle.csv.specs.declared.reader.Trim.TheVariants as trim
use Rattle.table_records.specs.declared.rows.Rows.{Rows}
use Rattle.table_records.specs.Records.{first_field}
use Rattle.table_records.specs.Reading.{Rules, answer_to, bytes_of}

-- a name was added last, unless it has a place among the old ones
pub record AddsName (old new : List Name) (name : List ℕ) (place : Option ℕ) : Type 0 where
  pub is_place : place ≡ position (bytes_eq name) (bytes_of old)
  pub added : IfNone place (bytes_of new ≡ bytes_of old ++ name ∷ [])
  pub distinct : IsDistinct bytes_eq (bytes_of new)

-- a record is a row after those of old, and new has it last
pub record TakesRow {R E : Type 0} (rules : Rules R E) (name_of : R → List ℕ)
    (is_row : ℕ → R → Type 0) (fields : List (List ℕ)) (old new : Rows R) : Type 0 where
  pub row : R
  pub answer : answer_to rules old.version (bytes_of old.names.keys) fields ≡ Ok row
  pub version : new.version ≡ old.version
  pub rows : new.rows.items ≡ old.rows.items ++ row ∷ []
  pub names : bytes_of new.names.keys ≡ bytes_of old.names.keys ++ first_field fields ∷ []
  pub named : name_of row ≡ first_field fields
  pub kept : is_row old.version row
  pub distinct : IsDistinct bytes_eq (bytes_of new.names.keys)

-- an iterator over the records of a text has given these, in their order
pub record HasGiven (text : List ℕ) (records : ByteRecordsIntoIter (Bor (List ℕ)))
    (given : List (List (List ℕ))) : Type 0 where
  pub untrimmed : reader_trim (owned_rows_reader records) ≡ trim.None
  pub ready : Ready (owned_rows_reader records)
  pub flexible : is_flexible (owned_rows_reader records) ≡ true
  pub left : 0 < owned_rows_left records
  pub config : reader_config (owned_rows_reader records) ≡ default_config
  -- the bytes that it has not read
  pub rest : List ℕ
  pub source : source_of (λ s. Some s.now) (owned_rows_reader records) ≡ Some rest
  pub reached : Reached default_config st.StartRecord (strip_bom text) given
      (reader_state (owned_rows_reader records)) rest
