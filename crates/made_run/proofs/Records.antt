-- The records of a text whose rows have plain fields, and what they say where each says a row.
use Rattle.std.proofs.Common.{ℕ, zero, suc, ◌≡◌, ◌+◌, ◌<◌, ◌≤◌, List, [], ◌∷◌, ◌++◌, length, length-append, map, Ok, Result, refl, ap, ap₂, sym, ◌∙◌, arith}
use Rattle.std.specs.Prelude.{None}
use Rattle.std.specs.List.{range_with_len}
use Rattle.std.proofs.lemmas.List.FromFn.{map-range_with_len_more}
use Rattle.csv.proofs.RoundTrip.{read-write, rows_text}
use Rattle.csv.specs.Machine.{next_record}
use Rattle.csv.specs.Reading.{default_config, records, records_from}
use Rattle.csv.specs.Writing.{default_writer, read_back, row_text}
use Rattle.csv.specs.declared.parser.State.TheVariants as st
use Rattle.market_maker.specs.Lines.{ended, row_of, text_of}
use Rattle.table_records.specs.Reading.{Rules, answer_to, answers, no_name, other_width, repeat, row_after, surplus}
use Rattle.table_records.specs.Records.{first_field}

records_begin : (n : ℕ) (rows : List (List (List ℕ))) → length rows ≤ n → records_from default_config n st.StartRecord (rows_text rows) ≡ map read_back rows
unfolding records_from rows_text next_record
records_begin zero [] few = refl
records_begin (suc n) [] few = refl
records_begin zero (row ∷ rows) few = absurd (omega arith)
records_begin (suc n) (row ∷ rows) few =
    rw (read-write row (rows_text rows)) (ap (λ (t : List (List (List ℕ))). read_back row ∷ t) (records_begin n rows (omega arith)))

-- each row has a byte at least
rows_long : (rows : List (List (List ℕ))) → length rows ≤ length (rows_text rows)
unfolding rows_text
rows_long [] = omega arith
rows_long (row ∷ rows) = omega (arith, rows_long rows, length-append (row_text default_writer row) (rows_text rows), row_long row)
  where
    row_long : (row : List (List ℕ)) → 1 ≤ length (row_text default_writer row)
    row_long row = grind (arith, length-append)

-- all records of a text of rows
pub records_written : (rows : List (List (List ℕ))) → records default_config (rows_text rows) ≡ map read_back rows
records_written rows = records_begin (length (rows_text rows) + 1) rows (omega (arith, rows_long rows))

-- rows one behind another are their lines one behind another
pub rows_lines : (fields : ℕ → List (List ℕ)) (from n : ℕ)
    → ((j : ℕ) → from ≤ j → j < from + n → row_text default_writer (fields j) ≡ ended (row_of (fields j)))
    → text_of (map (λ j. row_of (fields j)) (range_with_len from n)) ≡ rows_text (map fields (range_with_len from n))
unfolding rows_text
rows_lines fields from zero each = refl
rows_lines fields from (suc n) each =
    ap₂ (λ (a b : List ℕ). a ++ b) (sym (each from (omega arith) (omega arith)))
    (rows_lines fields (from + 1) n (λ j least most. each j (omega arith) (omega arith)))

pub read_back_rows : (fields : ℕ → List (List ℕ)) (from n : ℕ) → ((j : ℕ) → read_back (fields j) ≡ fields j)
    → map read_back (map fields (range_with_len from n)) ≡ map fields (range_with_len from n)
read_back_rows fields from zero same = refl
read_back_rows fields from (suc n) same = ap₂ (λ (a : List (List ℕ)) (b : List (List (List ℕ))). a ∷ b) (same from) (read_back_rows fields (from + 1) n same)

-- a record without a fault says what its row is
pub answered : {R E : Type 0} (rules : Rules R E) (version : ℕ) (names fields : List (List ℕ)) (row : R) → surplus rules version names ≡ None
    → other_width rules version names fields ≡ None → no_name rules version names fields ≡ None
    → repeat rules version names fields ≡ None → rules.row version (row_after rules version names) fields ≡ Ok row
    → answer_to rules version names fields ≡ Ok row
answered rules version names fields row few wide named new is = rw (few, wide, named, new) is

-- each of these records says its row, and has its name
pub all_answered : {R E : Type 0} (rules : Rules R E) (version : ℕ) (fields : ℕ → List (List ℕ)) (row : ℕ → R) (name : ℕ → List ℕ) (before n : ℕ)
    → ((j : ℕ) → first_field (fields j) ≡ name j)
    →
    ((earlier : ℕ) → before ≤ earlier → earlier < before + n
    → answer_to rules version (map name (range_with_len 1 earlier)) (fields (earlier + 1)) ≡ Ok (row (earlier + 1)))
    → answers rules version (map name (range_with_len 1 before)) (map fields (range_with_len (before + 1) n)) ≡ map Ok (map row (range_with_len (before + 1) n))
all_answered rules version fields row name before zero named each = refl
all_answered {R} {E} rules version fields row name before (suc n) named each =
    let names = map name (range_with_len 1 before) in
    let more : names ++ first_field (fields (before + 1)) ∷ [] ≡ map name (range_with_len 1 (before + 1)) =
    ap (λ (x : List ℕ). names ++ x ∷ []) (named (before + 1)) ∙ sym (map-range_with_len_more name 1 before (before + 1) (omega arith)) in
    ap₂ (λ (a : Result R E) (b : List (Result R E)). a ∷ b) (each before (omega arith) (omega arith)) (
    ap (λ ns. answers rules version ns (map fields (range_with_len (before + 1 + 1) n))) more
    ∙ all_answered rules version fields row name (before + 1) n named (λ earlier least most. each earlier (omega arith) (omega arith))
    )
