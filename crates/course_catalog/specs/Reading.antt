-- The catalogue that bytes stand for, or the refusal of its first bad record at its first bad
-- column.
use Rattle.std.specs.Prelude.{ℕ, ◌==◌, if◌then◌else◌, List, [], ◌∷◌, codes, Option, Some, Result, Ok}
use Rattle.market_units.specs.declared.limits.TheConstants.{MAX_SEATS, MAX_SECTION_CREDITS, MAX_SECTIONS}
use Rattle.timetable_rules.specs.declared.parts.Parts.{Parts}
use Rattle.timetable_rules.specs.Parts.{spelled_parts, whole_term}
use Rattle.timetable_rules.specs.Spelled.{spelled}
use Rattle.table_records.specs.Columns.{◌>>=◌, name_or, number_or, or_refused}
use Rattle.table_records.specs.Records.{field_in, first_field, records_of}
use Rattle.table_records.specs.Reading.{Rules, naming_rules, reading}
use Rattle.course_catalog.specs.declared.refusal.CatalogRefusal.{CatalogRefusal}
use Rattle.course_catalog.specs.declared.refusal.CatalogRefusal.TheVariants as refusal
use Rattle.course_catalog.specs.Refusal.{refusal_of}
use Rattle.course_catalog.specs.Catalog.{CatalogData}
use Rattle.course_catalog.specs.Sections.{Section}

-- the parts of the term in which a row's section runs: in version 1 the whole term, in version 2
-- what column 6 spells
abbrev pub parts_in : ℕ → List (List ℕ) → Option Parts
parts_in version fields =
    if version == 1 then Some whole_term else spelled_parts (field_in 6 fields)

-- the section that the fields of a row are: its name, its course, at most 9,999 seats, at most 100
-- credits, its meetings, its parts
abbrev pub section_of : ℕ → ℕ → List (List ℕ) → Result Section CatalogRefusal
section_of version row fields = do
  course ← name_or (refusal.Name row 2) (field_in 2 fields)
  seats ← number_or (refusal.Number row 3) MAX_SEATS (field_in 3 fields)
  credits ← number_or (refusal.Number row 4) MAX_SECTION_CREDITS (field_in 4 fields)
  meetings ← or_refused (refusal.Meetings row) (spelled (field_in 5 fields))
  parts ← or_refused (refusal.Parts row) (parts_in version fields)
  Ok
      (record {
        name = first_field fields;
        course = course;
        seats = seats;
        credits = credits;
        meetings = meetings;
        parts = parts;
      })

-- the fields of the first record in version 1
abbrev pub first_header : List (List ℕ)
first_header = codes "section" ∷ codes "course" ∷ codes "seats" ∷ codes "credits" ∷ codes "meetings" ∷ []

-- the rules of the catalogue: its headers, at most 400 rows, and what a row is
abbrev pub catalog_rules : Rules Section CatalogRefusal
catalog_rules =
    naming_rules first_header (codes "parts") (MAX_SECTIONS, refusal.TooMany) refusal_of section_of

-- the catalogue that bytes stand for, or their refusal
abbrev pub catalog_of : List ℕ → Result CatalogData CatalogRefusal
catalog_of bytes = do
  read ← reading catalog_rules (records_of bytes)
  Ok (record { version = read.version; sections = read.rows })
