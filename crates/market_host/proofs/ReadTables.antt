-- What a catalogue and a roll that were read have: different names, and no more rows than they may have.
use Rattle.std.proofs.Common.{ℕ, ◌≡◌, ◌≤◌, ◌+◌, ◌&&◌, Bool, true, false, true≢false, cond, nat_le, List, [], ◌∷◌, ◌++◌, length, length-append, map, Option, Some, None, Result, Ok, Err, refl, ap, sym, subst, ◌∙◌, arith, inl, inr}
use Rattle.std.specs.Prelude.{All, option_map}
use Rattle.std.specs.List.{AllByRecursion, IsDistinct, position}
use Rattle.std.specs.Str.{bytes_eq}
use Rattle.std.specs.Cmp.Lexicographic.{bytes_decides}
use Rattle.std.proofs.lemmas.Bool.{cases_Bool}
use Rattle.std.proofs.lemmas.Bool.Decides.{nat_tests}
use Rattle.std.proofs.lemmas.List.Elements.{All-from_recursion, All-pop}
use Rattle.std.proofs.lemmas.Map.Keys.{IsDistinct-cons}
use Rattle.course_catalog.specs.Catalog.{CatalogData}
use Rattle.course_catalog.specs.Reading.{catalog_of, catalog_rules, parts_in, section_of}
use Rattle.course_catalog.specs.Reading as catalogs
use Rattle.course_catalog.specs.Refusal as offered
use Rattle.course_catalog.specs.Sections.{Section, section_names}
use Rattle.course_catalog.specs.declared.refusal.CatalogRefusal.TheVariants as unlisted
use Rattle.market_units.specs.Names.{IsName}
use Rattle.market_units.specs.declared.limits.TheConstants.{MAX_BASE, MAX_COURSES, MAX_CREDITS, MAX_SEATS, MAX_SECTION_CREDITS, MAX_SECTIONS, MAX_STUDENTS}
use Rattle.student_roll.specs.Rolls.{carry_in, roll_of, roll_rules, student_of}
use Rattle.student_roll.specs.Rolls as rolls
use Rattle.student_roll.specs.Students.{RollData, Student, names_of}
use Rattle.student_roll.specs.declared.refusal.RollRefusal.TheVariants as unenrolled
use Rattle.table_records.specs.Columns.{◌>>=◌, is_name, name_or, number_or, or_refused}
use Rattle.table_records.specs.Reading.{Rules, TableData, answer_to, answers, naming_rules, no_name, other_width, reading, reading_under, refusal_if_full, repeat, rows_or_first_refusal, surplus, unless, version_of, with_version}
use Rattle.table_records.specs.Records.{field_in, first_field, records_of}
use Rattle.table_records.specs.declared.fault.Fault.{Fault}
use Rattle.table_records.proofs.ColumnFacts.{IsName-from_test}
use Rattle.table_records.proofs.LawFacts.{goes_on}
use Rattle.table_records.proofs.WalkFacts.{version_of-known}
use Rattle.timetable_rules.specs.Spelled.{spelled}
use Rattle.utility_language.proofs.LineLemmas.{position_none}

-- what is made of the answers of steps, which come one behind another, is what is read
one_step : {A E R : Type 0} (P : R → Type 0) (all : R) (a : Result A E) (make : A → R) → ((x : A) → a ≡ Ok x → P (make x))
    → (a >>= (λ x. Ok (make x))) ≡ Ok all → P all
one_step P all (Ok x) make each e = let same : make x ≡ all = cc in subst P same (each x refl)
one_step P all (Err refusal) make each e = absurd (cc)

four_steps : {A B C D E R : Type 0} (P : R → Type 0) (all : R) (a : Result A E) (b : Result B E) (c : Result C E) (d : A → Result D E)
    (make : A → B → C → D → R) → ((x : A) (y : B) (z : C) (u : D) → P (make x y z u))
    → (a >>= (λ x. b >>= (λ y. c >>= (λ z. d x >>= (λ u. Ok (make x y z u)))))) ≡ Ok all → P all
four_steps P all (Err refusal) b c d make each e = absurd (cc)
four_steps P all (Ok x) (Err refusal) c d make each e = absurd (cc)
four_steps P all (Ok x) (Ok y) (Err refusal) d make each e = absurd (cc)
four_steps P all (Ok x) (Ok y) (Ok z) d make each e = one_step P all (d x) (make x y z) (λ u is. each x y z u) e

five_steps : {A B C D F E R : Type 0} (P : R → Type 0) (all : R) (a : Result A E) (b : Result B E) (c : Result C E) (d : Result D E) (f : Result F E)
    (make : A → B → C → D → F → R) → ((x : A) (y : B) (z : C) (u : D) (v : F) → P (make x y z u v))
    → (a >>= (λ x. b >>= (λ y. c >>= (λ z. d >>= (λ u. f >>= (λ v. Ok (make x y z u v))))))) ≡ Ok all → P all
five_steps P all (Err refusal) b c d f make each e = absurd (cc)
five_steps P all (Ok x) b c d f make each e = four_steps P all b c d (λ _. f) (make x) (each x) e

-- an answer is given where none of the refusals is
passed : {R E : Type 0} (first : Option E) (more : List (Option E)) (answer : Result R E) (row : R) → unless (first ∷ more) answer ≡ Ok row
    → (first ≡ None) × (unless more answer ≡ Ok row)
passed None more answer row e = (refl, e)
passed (Some refusal) more answer row e = absurd (cc)

room_for : {E : Type 0} (limit rows : ℕ) (full : E) → refusal_if_full (Some (limit, full)) rows ≡ None → rows + 1 ≤ limit
room_for limit rows full e =
    elim (cases_Bool (nat_le limit rows)) [
      | inl test ↦ let h = rw test at e in absurd (cc)
      | inr test ↦ let less : nat_le limit rows ≡ false = test in grind (arith, nat_tests)
    ]

tested : {E : Type 0} (first second : Bool) (refusal : E) → cond (first && second) None (Some refusal) ≡ None → first ≡ true
tested true second refusal e = refl
tested false second refusal e = absurd (cc)

nowhere : {E : Type 0} (place : Option ℕ) (refusal : ℕ → E) → option_map refusal place ≡ None → place ≡ None
nowhere None refusal e = refl
nowhere (Some n) refusal e = absurd (cc)

-- the first of some answers, and those behind it
first_answer : {R E : Type 0} (answer : Result R E) (more : List (Result R E)) (rows : List R) → rows_or_first_refusal (answer ∷ more) ≡ Ok rows
    → (row : R) × (later : List R) × (answer ≡ Ok row) × (rows_or_first_refusal more ≡ Ok later) × (rows ≡ row ∷ later)
first_answer (Ok row) more rows e = let (later, is, all) = goes_on row (rows_or_first_refusal more) rows e in (row, later, refl, is, all)
first_answer (Err refusal) more rows e = absurd (cc)

-- no name of these is this one
abbrev IsNew : List (List ℕ) → List ℕ → Type 0
IsNew names name = All (λ other. bytes_eq name other ≡ false) names

-- names behind other names, as many as there may be, are names, are new, and differ
record AreBehind (limit : ℕ) (names later : List (List ℕ)) : Type 0 where
  few : length names + length later ≤ limit
  each : AllByRecursion IsName later
  new : AllByRecursion (IsNew names) later
  distinct : IsDistinct bytes_eq later

none_behind : (limit : ℕ) (names : List (List ℕ)) → length names ≤ limit → AreBehind limit names []
unfolding IsDistinct
none_behind limit names small = record { few = omega (arith, small); each = tt; new = tt; distinct = tt }

other_way : (a b : List ℕ) → bytes_eq a b ≡ false → bytes_eq b a ≡ false
other_way a b differ =
    elim (cases_Bool (bytes_eq b a)) [
      | inl same ↦ absurd (true≢false (sym ((bytes_decides a b).1 (sym ((bytes_decides b a).0 same))) ∙ differ))
      | inr other ↦ other
    ]

-- what is new behind a name is new before it, and is not this name
apart : (names : List (List ℕ)) (name : List ℕ) (later : List (List ℕ)) → AllByRecursion (IsNew (names ++ name ∷ [])) later
    → AllByRecursion (IsNew names) later × AllByRecursion (λ other. bytes_eq name other ≡ false) later
apart names name [] new = (tt, tt)
apart names name (x ∷ later) new =
    let here = All-pop (λ other. bytes_eq x other ≡ false) (names ++ name ∷ []) names (Some name) refl new.0 in
    let more = apart names name later new.1 in
    ((here.0, more.0), (other_way x name here.1, more.1))

one_behind : (limit : ℕ) (names : List (List ℕ)) (name : List ℕ) (later : List (List ℕ)) → IsName name → IsNew names name
    → AreBehind limit (names ++ name ∷ []) later → AreBehind limit names (name ∷ later)
one_behind limit names name later is new are =
    let both = apart names name later are.new in
    record {
      few = omega (arith, are.few, length-append names (name ∷ []));
      each = (is, are.each);
      new = (new, both.0);
      distinct = IsDistinct-cons bytes_eq name later both.1 are.distinct;
    }

-- a table's names
pub record HasNames (limit version : ℕ) (names : List (List ℕ)) : Type 0 where
  pub known : version ≤ 2
  pub few : length names ≤ limit
  pub each : All IsName names
  pub distinct : IsDistinct bytes_eq names

-- a table of two versions, each row of which has the name that stands in its first field
module _ {R E : Type 0} (header : List (List ℕ)) (column : List ℕ) (limit : ℕ) (full : E) (refused : Fault → E)
    (row_of : ℕ → ℕ → List (List ℕ) → Result R E) (name : R → List ℕ)
    (called : (version number : ℕ) (fields : List (List ℕ)) (row : R) → row_of version number fields ≡ Ok row → name row ≡ first_field fields) where
  abbrev rules : Rules R E
  rules = naming_rules header column (limit, full) refused row_of

  row_read : (version : ℕ) (names : List (List ℕ)) (fields : List (List ℕ)) (row : R) → answer_to rules version names fields ≡ Ok row
      → (length names + 1 ≤ limit) × IsName (first_field fields) × IsNew names (first_field fields) × (name row ≡ first_field fields)
  row_read version names fields row e =
      let answer : Result R E = row_of version (length names + 2) fields in
      let room = passed (surplus rules version names) (other_width rules version names fields ∷ no_name rules version names fields ∷ repeat rules version names fields ∷ []) answer row e in
      let width = passed (other_width rules version names fields) (no_name rules version names fields ∷ repeat rules version names fields ∷ []) answer row room.1 in
      let good = passed (no_name rules version names fields) (repeat rules version names fields ∷ []) answer row width.1 in
      let new = passed (repeat rules version names fields) [] answer row good.1 in (
        room_for limit (length names) full room.0,
        IsName-from_test (first_field fields) (tested (is_name (first_field fields)) true _ good.0),
        position_none (bytes_eq (first_field fields)) names (nowhere (position (bytes_eq (first_field fields)) names) _ new.0),
        called version (length names + 2) fields row new.1,
      )

  rows_read : (version : ℕ) (names : List (List ℕ)) (records : List (List (List ℕ))) (rows : List R) → length names ≤ limit
      → rows_or_first_refusal (answers rules version names records) ≡ Ok rows → AreBehind limit names (map name rows)
  rows_read version names [] rows small e =
      let none : [] ≡ rows = cc in subst (λ (all : List R). AreBehind limit names (map name all)) none (none_behind limit names small)
  rows_read version names (fields ∷ more) rows small e =
      let next : List (List ℕ) = names ++ first_field fields ∷ [] in
      let (row, later, answer, read, all) = first_answer (answer_to rules version names fields) (answers rules version next more) rows e in
      let has = row_read version names fields row answer in
      let behind_it = rows_read version next more later (omega (arith, has.0, length-append names (first_field fields ∷ []))) read in
      subst (λ (every : List R). AreBehind limit names (map name every)) (sym all)
      (subst (λ (first : List ℕ). AreBehind limit names (first ∷ map name later)) (sym has.3)
      (one_behind limit names (first_field fields) (map name later) has.1 has.2 behind_it))

  versioned : (version : ℕ) (read : Result (List R) E) (table : TableData R) → with_version version read ≡ Ok table
      → (read ≡ Ok table.rows) × (version ≡ table.version)
  versioned version (Ok rows) table e =
      let same : record { version = version; rows = rows } ≡ table = cc in
      (ap (λ (t : TableData R). Ok t.rows) same, ap (λ (t : TableData R). t.version) same)
  versioned version (Err refusal) table e = absurd (cc)

  read_under : (first : List (List ℕ)) (later : List (List (List ℕ))) (version : Option ℕ) (table : TableData R) → version_of rules.headers first ≡ version
      → reading_under rules version later ≡ Ok table → HasNames limit table.version (map name table.rows)
  read_under first later None table is e = absurd (cc)
  read_under first later (Some version) table is e =
      let read = versioned version (rows_or_first_refusal (answers rules version [] later)) table e in
      let are : AreBehind limit [] (map name table.rows) = rows_read version [] later table.rows (omega arith) read.0 in
      let last : version ≤ 2 = (version_of-known rules.headers first version is).last in
      record {
        known = omega (arith, last, read.1);
        few = omega (arith, are.few);
        each = All-from_recursion IsName (map name table.rows) are.each;
        distinct = are.distinct;
      }

  pub table_read : (records : List (List (List ℕ))) (table : TableData R) → reading rules records ≡ Ok table
      → HasNames limit table.version (map name table.rows)
  table_read [] table e = absurd (cc)
  table_read (first ∷ later) table e = read_under first later (version_of rules.headers first) table refl e

-- a section has the name that stands first in its row
section_called : (version number : ℕ) (fields : List (List ℕ)) (section : Section) → section_of version number fields ≡ Ok section
    → section.name ≡ first_field fields
section_called version number fields section e =
    five_steps (λ (s : Section). s.name ≡ first_field fields) section (name_or (unlisted.Name number 2) (field_in 2 fields))
    (number_or (unlisted.Number number 3) MAX_SEATS (field_in 3 fields)) (number_or (unlisted.Number number 4) MAX_SECTION_CREDITS (field_in 4 fields))
    (or_refused (unlisted.Meetings number) (spelled (field_in 5 fields))) (or_refused (unlisted.Parts number) (parts_in version fields))
    (λ course seats credits meetings parts. record {
      name = first_field fields;
      course = course;
      seats = seats;
      credits = credits;
      meetings = meetings;
      parts = parts;
    })
    (λ course seats credits meetings parts. refl) e

-- a student has the name that stands first in its row
student_called : (version number : ℕ) (fields : List (List ℕ)) (student : Student) → student_of version number fields ≡ Ok student
    → student.name ≡ first_field fields
student_called version number fields student e =
    four_steps (λ (s : Student). s.name ≡ first_field fields) student (number_or (unenrolled.Number number 2) MAX_BASE (field_in 2 fields))
    (number_or (unenrolled.Number number 3) MAX_CREDITS (field_in 3 fields)) (number_or (unenrolled.Number number 4) MAX_COURSES (field_in 4 fields))
    (λ base. carry_in version number base fields)
    (λ base credits courses carry. record { name = first_field fields; base = base; credits = credits; courses = courses; carry = carry })
    (λ base credits courses carry. refl) e

pub catalog_read : (text : List ℕ) (catalog : CatalogData) → catalog_of text ≡ Ok catalog
    → HasNames MAX_SECTIONS catalog.version (section_names catalog.sections)
catalog_read text catalog e =
    one_step (λ (c : CatalogData). HasNames MAX_SECTIONS c.version (section_names c.sections)) catalog (reading catalog_rules (records_of text))
    (λ table. record { version = table.version; sections = table.rows })
    (λ table read. table_read catalogs.first_header _ MAX_SECTIONS unlisted.TooMany offered.refusal_of section_of (λ (s : Section). s.name) section_called
    (records_of text) table read)
    e

pub roll_read : (text : List ℕ) (roll : RollData) → roll_of text ≡ Ok roll → HasNames MAX_STUDENTS roll.version (names_of roll.students)
roll_read text roll e =
    one_step (λ (r : RollData). HasNames MAX_STUDENTS r.version (names_of r.students)) roll (reading roll_rules (records_of text))
    (λ table. record { version = table.version; students = table.rows })
    (λ table read. table_read rolls.first_header _ MAX_STUDENTS unenrolled.TooMany rolls.refusal_of student_of (λ (s : Student). s.name) student_called
    (records_of text) table read)
    e
