-- What a market's catalogue and roll say of its sections and its students.
use Rattle.std.specs.Prelude.{ℕ, ◌<◌, Option, List, length, map, position, slice_index_or}
use Rattle.std.specs.Str.{bytes_eq}
use Rattle.market_units.specs.declared.names.Name.{Name}
use Rattle.market_units.specs.Name.{name_bytes}
use Rattle.course_catalog.specs.Catalog.{CatalogData, IsCatalog}
use Rattle.course_catalog.specs.Sections.{Section, section_at, section_names}
use Rattle.student_roll.specs.Students.{IsRoll, RollData, Student, no_student, names_of}

pub record Market : Type 0 where
  pub catalog : CatalogData
  pub roll : RollData

-- a catalogue and a roll, in their ranges
pub record IsMarket (market : Market) : Type 0 where
  pub catalog : IsCatalog market.catalog
  pub roll : IsRoll market.roll

-- how many sections and students there are; both are numbered from 0, in file order
abbrev pub section_count : Market → ℕ
section_count market = length market.catalog.sections

abbrev pub student_count : Market → ℕ
student_count market = length market.roll.students

-- the market has a student and a section of these ordinals
pub record AreKnown (market : Market) (i s : ℕ) : Type 0 where
  pub student : i < student_count market
  pub section : s < section_count market

-- the section of an ordinal
abbrev pub offered : Market → ℕ → Section
offered market s = section_at market.catalog.sections s

-- the student of an ordinal
abbrev pub enrolled : Market → ℕ → Student
enrolled market i = slice_index_or market.roll.students i no_student

-- the ordinal of the section of a name, where there is one
abbrev pub section_named : Market → Name → Option ℕ
section_named market name =
    position (bytes_eq (name_bytes name)) (section_names market.catalog.sections)

-- the ordinal of the student of a name, where there is one
abbrev pub student_named : Market → Name → Option ℕ
student_named market name = position (bytes_eq (name_bytes name)) (names_of market.roll.students)

-- how many seats each section has
abbrev pub seats_in : Market → List ℕ
seats_in market = map (λ section. section.seats) market.catalog.sections
