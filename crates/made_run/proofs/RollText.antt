-- The text of a made roll is read as the made roll.
use Rattle.std.proofs.Common.{ℕ, ◌≡◌, ◌+◌, ◌<◌, ◌≤◌, List, [], ◌∷◌, ◌++◌, map, Ok, refl, ap, ◌∙◌, arith}
use Rattle.std.specs.Prelude.{codes}
use Rattle.std.specs.Fmt.{digits}
use Rattle.std.specs.List.{range_with_len}
use Rattle.std.proofs.lemmas.Bool.{lt-leb}
use Rattle.std.proofs.lemmas.List.FromFn.{length-map-range_with_len}
use Rattle.csv.proofs.RoundTrip.{rows_text}
use Rattle.csv.specs.Reading.{default_config, records, strip_bom}
use Rattle.csv.specs.Records.{field_at}
use Rattle.csv.specs.Writing.{default_writer, fields_text, is_blank, row_text}
use Rattle.made_run.specs.Tables.{made_roll, made_student}
use Rattle.made_run.proofs.Fields.{plain_decimal, row_plain}
use Rattle.made_run.proofs.Names.{no_earlier, numbered_name}
use Rattle.made_run.proofs.Records.{all_answered, answered, read_back_rows, records_written, rows_lines}
use Rattle.market_maker.specs.Lines.{ended, numbers_to, row_of}
use Rattle.market_maker.specs.Rolls.{roll_header, roll_text, student_name}
use Rattle.student_roll.specs.Rolls.{first_header, roll_of, roll_rules, student_of}
use Rattle.table_records.proofs.ColumnFacts.{is_name-true}
use Rattle.table_records.proofs.LawFacts.{rows_where_all_are_good_law}
use Rattle.table_records.specs.Reading.{answer_to, answers}
use Rattle.table_records.specs.Records.{records_of}

-- the fields of student i's row
abbrev fields_of_student : ℕ → List (List ℕ)
fields_of_student i = student_name i ∷ codes "100000" ∷ codes "12" ∷ codes "4" ∷ []

student_said : (row i : ℕ) → student_of 1 row (fields_of_student i) ≡ Ok (made_student i)
unfolding field_at digits
student_said row i = refl

student_answered : (earlier : ℕ) → earlier < 2000
    → answer_to roll_rules 1 (map student_name (range_with_len 1 earlier)) (fields_of_student (earlier + 1)) ≡ Ok (made_student (earlier + 1))
unfolding field_at
student_answered earlier few =
    let i = earlier + 1 in
    answered roll_rules 1 (map student_name (range_with_len 1 earlier)) (fields_of_student i) (made_student i)
    (rw (length-map-range_with_len student_name 1 earlier, lt-leb 2000 earlier few) refl)
    refl
    (rw (is_name-true (student_name i) (numbered_name 83 i refl (omega arith))) refl)
    (rw (no_earlier 83 earlier (omega arith)) refl)
    (student_said _ i)

student_plain : (i : ℕ) → i ≤ 2000 → row_text default_writer (fields_of_student i) ≡ ended (row_of (fields_of_student i))
student_plain i few = row_plain (student_name i) (codes "100000") (codes "12" ∷ codes "4" ∷ []) (plain_decimal i (omega arith), (refl, (refl, (refl, tt))))

roll_rows : (students : ℕ) → students ≤ 2000 → roll_text students ≡ rows_text (first_header ∷ map fields_of_student (numbers_to students))
unfolding fields_text is_blank rows_text
roll_rows students few = ap (λ t. ended roll_header ++ t) (rows_lines fields_of_student 1 students (λ i least most. student_plain i (omega arith)))

no_mark : (students : ℕ) → strip_bom (roll_text students) ≡ roll_text students
unfolding strip_bom
no_mark students = refl

roll_records : (students : ℕ) → students ≤ 2000 → records_of (roll_text students) ≡ first_header ∷ map fields_of_student (numbers_to students)
roll_records students few =
    ap (λ t. records default_config t) (no_mark students ∙ roll_rows students few)
    ∙ records_written (first_header ∷ map fields_of_student (numbers_to students))
    ∙ ap (λ (t : List (List (List ℕ))). first_header ∷ t) (read_back_rows fields_of_student 1 students (λ i. refl))

pub roll_read : (students : ℕ) → students ≤ 2000 → roll_of (roll_text students) ≡ Ok (made_roll students)
unfolding field_at
roll_read students few =
    let said =
    all_answered roll_rules 1 fields_of_student made_student student_name 0 students (λ i. refl)
    (λ earlier least most. student_answered earlier (omega arith)) in
    let good =
    (rows_where_all_are_good_law (answers roll_rules 1 [] (map fields_of_student (numbers_to students))) (map made_student (numbers_to students))).1 said in
    rw (roll_records students few, good) refl
