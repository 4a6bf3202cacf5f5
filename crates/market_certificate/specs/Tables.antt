-- What a published text takes of the catalogue and of the roll.
use Rattle.std.specs.Prelude.{ℕ, ◌<◌, ◌≤◌, ◌^◌, List, [], All, length, max, slice_index_or}
use Rattle.std.specs.List.{IsDistinct}
use Rattle.std.specs.Str.{bytes_eq}
use Rattle.market_units.specs.declared.limits.TheConstants.{MAX_SECTIONS, MAX_STUDENTS}
use Rattle.market_units.specs.Names.{IsName}
use Rattle.course_catalog.specs.Catalog.{CatalogData}
use Rattle.course_catalog.specs.Sections.{section_names}
use Rattle.student_roll.specs.Students.{RollData, names_of}

-- the greater of the two versions, and the names of the students and of the sections in file order
pub record Tables : Type 0 where
  pub version : ℕ
  pub students : List (List ℕ)
  pub sections : List (List ℕ)

-- of this catalogue and this roll
abbrev pub tables_of : CatalogData → RollData → Tables
tables_of catalog roll =
    record {
      version = max catalog.version roll.version;
      students = names_of roll.students;
      sections = section_names catalog.sections;
    }

-- different names
pub record AreNames (names : List (List ℕ)) : Type 0 where
  pub each : All IsName names
  pub distinct : IsDistinct bytes_eq names

-- tables as a catalogue and a roll have them
pub record AreTables (tables : Tables) : Type 0 where
  pub version : tables.version < 2 ^ 64
  pub students : AreNames tables.students
  pub few_students : length tables.students ≤ MAX_STUDENTS
  pub sections : AreNames tables.sections
  pub few_sections : length tables.sections ≤ MAX_SECTIONS

-- the name of an ordinal
abbrev pub name_at : List (List ℕ) → ℕ → List ℕ
name_at names n = slice_index_or names n []
