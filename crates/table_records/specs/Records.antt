-- The records of a text, and the fields of a record by their columns.
use Rattle.std.specs.Prelude.{ℕ, ◌-◌, List, [], unwrap_or}
use Rattle.csv.specs.Reading.{records, default_config, strip_bom}
use Rattle.csv.specs.Records.{field_at}

-- the finished list of records that a text has: comma, double quote, doubled quotes, any of CR, LF
-- and CR LF as line end, no trimming, empty lines give no record, and one leading byte order mark
-- is dropped
abbrev pub records_of : List ℕ → List (List (List ℕ))
records_of text = records default_config (strip_bom text)

-- the field of a record in a column, columns being counted from 1; a column that it lacks has no
-- bytes
abbrev pub field_in : ℕ → List (List ℕ) → List ℕ
field_in column fields = unwrap_or (field_at fields (column - 1)) []

-- the field in the first column, which is the row's name
abbrev pub first_field : List (List ℕ) → List ℕ
first_field fields = field_in 1 fields
