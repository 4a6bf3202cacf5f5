-- The laws of a table's columns and records.
use Rattle.std.specs.Prelude.{ℕ, ◌≡◌, ◌↔◌, ◌<◌, ◌≤◌, ◌^◌, true, List, ◌∷◌, ◌++◌, map, Some, Result, Ok, Err}
use Rattle.std.specs.Fmt.{decimal}
use Rattle.market_units.specs.Names.{IsName}
use Rattle.table_records.specs.Columns.{is_name, number_of}
use Rattle.table_records.specs.Reading.{rows_or_first_refusal}

-- the test of a name tells names
abbrev pub NameTest : Type 0
NameTest = (bytes : List ℕ) → (is_name bytes ≡ true) ↔ IsName bytes

-- a column says a number at most max exactly where it is that number's spelling
abbrev pub NumberSpelled : Type 0
NumberSpelled =
    (max n : ℕ) (bytes : List ℕ) → max < 2 ^ 64
    → (number_of max bytes ≡ Some n) ↔ ((n ≤ max) × (bytes ≡ decimal n))

-- rows are read exactly where every record's answer is its row
abbrev pub RowsWhereAllAreGood : Type 0 → Type 0 → Type 0
RowsWhereAllAreGood R E =
    (answers : List (Result R E)) (rows : List R)
    → (rows_or_first_refusal answers ≡ Ok rows) ↔ (answers ≡ map Ok rows)

-- a refusal is told exactly where it is that of the first record that has one
abbrev pub RefusalOfTheFirst : Type 0 → Type 0 → Type 0
RefusalOfTheFirst R E =
    (answers : List (Result R E)) (refusal : E)
    → (rows_or_first_refusal answers ≡ Err refusal)
    ↔ ((before : List R) × (after : List (Result R E))
    × (answers ≡ map Ok before ++ Err refusal ∷ after))
