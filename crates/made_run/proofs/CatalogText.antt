-- The text of a made catalogue is read as the made catalogue.
use Rattle.std.proofs.Common.{ℕ, ◌≡◌, ◌+◌, ◌/◌, ◌%◌, ◌^◌, ◌<◌, ◌≤◌, List, [], ◌∷◌, ◌++◌, map, Ok, refl, ap, sym, ◌∙◌, arith}
use Rattle.std.specs.Prelude.{Some}
use Rattle.std.specs.Fmt.{decimal}
use Rattle.std.specs.List.{range_with_len}
use Rattle.std.proofs.lemmas.Bool.{lt-leb}
use Rattle.std.proofs.lemmas.List.Elements.{All-cons}
use Rattle.std.proofs.lemmas.List.FromFn.{length-map-range_with_len}
use Rattle.csv.proofs.RoundTrip.{rows_text}
use Rattle.csv.specs.Reading.{default_config, records, strip_bom}
use Rattle.csv.specs.Records.{field_at}
use Rattle.csv.specs.Writing.{default_writer, fields_text, is_blank, row_text}
use Rattle.course_catalog.specs.Reading.{catalog_of, catalog_rules, first_header, section_of}
use Rattle.made_run.specs.Tables.{made_catalog, made_meeting, made_section}
use Rattle.made_run.proofs.Fields.{day_letters, plain_decimal, plain_meeting, row_plain}
use Rattle.made_run.proofs.Names.{no_earlier, numbered_name}
use Rattle.made_run.proofs.Records.{all_answered, answered, read_back_rows, records_written, rows_lines}
use Rattle.market_maker.specs.Catalogs.{catalog_header, catalog_text, course_name, meeting_of, section_name, start_of}
use Rattle.market_maker.specs.Lines.{ended, numbers_to, row_of}
use Rattle.table_records.proofs.ColumnFacts.{is_name-true, number_of-spelled}
use Rattle.table_records.proofs.LawFacts.{rows_where_all_are_good_law}
use Rattle.table_records.specs.Columns.{name_of, number_of}
use Rattle.table_records.specs.Reading.{answer_to, answers}
use Rattle.table_records.specs.Records.{records_of}
use Rattle.timetable_rules.proofs.Guesses.{spelled-relation}
use Rattle.timetable_rules.specs.Meeting.{IsMeeting}
use Rattle.timetable_rules.specs.Spelled.{spelled}
use Rattle.timetable_rules.specs.Spelling.{Spells, clock}

-- the fields of section j's row
abbrev fields_of_section : ℕ → ℕ → List (List ℕ)
fields_of_section students j = section_name j ∷ course_name j ∷ decimal (1 + students / 4) ∷ decimal (1 + j % 3) ∷ meeting_of j ∷ []

spells_meeting : (j : ℕ) → Spells (meeting_of j) (made_meeting j ∷ [])
spells_meeting j = record {
  few = omega arith;
  each =
      All-cons IsMeeting (made_meeting j) [] (record { weekday = omega arith; in_order = omega arith; same_day = omega arith })
      (λ k d inside. absurd (omega arith));
  joined = ap (λ (letter : ℕ). letter ∷ (clock (start_of j) ++ 45 ∷ clock (start_of j + 80))) (day_letters (j % 5) (omega arith)).0;
}

-- what the columns of section j's row say
course_said : (j : ℕ) → j ≤ 400 → name_of (course_name j) ≡ Some (course_name j)
course_said j small = rw (is_name-true (course_name j) (numbered_name 75 ((j + 1) / 2) refl (omega arith))) refl

number_said : (max n : ℕ) → max < 2 ^ 64 → n ≤ max → number_of max (decimal n) ≡ Some n
number_said max n small few = sym (number_of-spelled max (decimal n) n small few refl)

meeting_said : (j : ℕ) → spelled (meeting_of j) ≡ Some (made_meeting j ∷ [])
meeting_said j = (spelled-relation (meeting_of j) (made_meeting j ∷ [])).1 (spells_meeting j)

section_said : (students row j : ℕ) → students ≤ 2000 → j ≤ 400 → section_of 1 row (fields_of_section students j) ≡ Ok (made_section students j)
unfolding field_at
section_said students row j few small =
    rw (
      course_said j small,
      number_said 9999 (1 + students / 4) (omega arith) (omega arith),
      number_said 100 (1 + j % 3) (omega arith) (omega arith),
      meeting_said j,
    )
    refl

section_answered : (students earlier : ℕ) → students ≤ 2000 → earlier < 400
    → answer_to catalog_rules 1 (map section_name (range_with_len 1 earlier)) (fields_of_section students (earlier + 1))
    ≡ Ok (made_section students (earlier + 1))
unfolding field_at
section_answered students earlier few small =
    let j = earlier + 1 in
    answered catalog_rules 1 (map section_name (range_with_len 1 earlier)) (fields_of_section students j) (made_section students j)
    (rw (length-map-range_with_len section_name 1 earlier, lt-leb 400 earlier small) refl)
    refl
    (rw (is_name-true (section_name j) (numbered_name 67 j refl (omega arith))) refl)
    (rw (no_earlier 67 earlier (omega arith)) refl)
    (section_said students _ j few (omega arith))

section_plain : (students j : ℕ) → students ≤ 2000 → j ≤ 400
    → row_text default_writer (fields_of_section students j) ≡ ended (row_of (fields_of_section students j))
section_plain students j few small =
    row_plain (section_name j) (course_name j) (decimal (1 + students / 4) ∷ decimal (1 + j % 3) ∷ meeting_of j ∷ []) (
      plain_decimal j (omega arith),
      (
        plain_decimal ((j + 1) / 2) (omega arith),
        (plain_decimal (1 + students / 4) (omega arith), (plain_decimal (1 + j % 3) (omega arith), (plain_meeting j, tt))),
      ),
    )

catalog_rows : (students sections : ℕ) → students ≤ 2000 → sections ≤ 400
    → catalog_text students sections ≡ rows_text (first_header ∷ map (fields_of_section students) (numbers_to sections))
unfolding fields_text is_blank rows_text
catalog_rows students sections few small =
    ap (λ t. ended catalog_header ++ t) (rows_lines (fields_of_section students) 1 sections (λ j least most. section_plain students j few (omega arith)))

no_mark : (students sections : ℕ) → strip_bom (catalog_text students sections) ≡ catalog_text students sections
unfolding strip_bom
no_mark students sections = refl

catalog_records : (students sections : ℕ) → students ≤ 2000 → sections ≤ 400
    → records_of (catalog_text students sections) ≡ first_header ∷ map (fields_of_section students) (numbers_to sections)
catalog_records students sections few small =
    let rows = map (fields_of_section students) (numbers_to sections) in
    ap (λ t. records default_config t) (no_mark students sections ∙ catalog_rows students sections few small)
    ∙ records_written (first_header ∷ rows)
    ∙ ap (λ (t : List (List (List ℕ))). first_header ∷ t) (read_back_rows (fields_of_section students) 1 sections (λ j. refl))

pub catalog_read : (students sections : ℕ) → students ≤ 2000 → sections ≤ 400
    → catalog_of (catalog_text students sections) ≡ Ok (made_catalog students sections)
unfolding field_at
catalog_read students sections few small =
    let rows = map (made_section students) (numbers_to sections) in
    let said =
    all_answered catalog_rules 1 (fields_of_section students) (made_section students) section_name 0 sections (λ j. refl)
    (λ earlier least most. section_answered students earlier few (omega arith)) in
    let good = (rows_where_all_are_good_law (answers catalog_rules 1 [] (map (fields_of_section students) (numbers_to sections))) rows).1 said in
    rw (catalog_records students sections few small, good) refl
