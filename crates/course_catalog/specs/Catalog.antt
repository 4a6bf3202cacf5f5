-- A catalogue, and what its type keeps.
use Rattle.std.specs.Prelude.{ℕ, ◌≡◌, ◌≤◌, List, All, length, map}
use Rattle.std.specs.List.{IsDistinct}
use Rattle.std.specs.Str.{bytes_eq}
use Rattle.std.specs.Ordering.{nat_cmp}
use Rattle.std.specs.FinSet as set
use Rattle.market_units.specs.declared.limits.TheConstants.{MAX_SECTIONS}
use Rattle.timetable_rules.specs.Clash.{IsClashTable}
use Rattle.timetable_rules.specs.Parts.{whole_term}
use Rattle.market_units.specs.declared.names.Name.{Name}
use Rattle.table_records.specs.Reading.{bytes_of}
use Rattle.course_catalog.specs.Sections.{Section, IsSection}
use Rattle.course_catalog.specs.Courses.{course_numbers}

-- a catalogue: the version of its table, and its sections in the order of the table
pub record CatalogData : Type 0 where
  pub version : ℕ
  pub sections : List Section

-- a section that a table of this version may list: in version 1 it runs in the whole term
pub record IsListed (version : ℕ) (section : Section) : Type 0 where
  pub is_section : IsSection section
  pub whole : version ≡ 1 → section.parts ≡ whole_term

-- of version 1 or 2; at most 400 sections, of different names, within their ranges; in version 1
-- each runs in the whole term
pub record IsCatalog (catalog : CatalogData) : Type 0 where
  pub some_version : 1 ≤ catalog.version
  pub known_version : catalog.version ≤ 2
  pub few : length catalog.sections ≤ MAX_SECTIONS
  pub distinct : IsDistinct bytes_eq (map (λ section. section.name) catalog.sections)
  pub each : All (IsListed catalog.version) catalog.sections

-- what is kept beside the sections, each worked out once: their names, seats, course numbers and
-- clashes
pub record KeepsCatalog (catalog : CatalogData) (name_keys : List Name)
    (seat_list course_list : List ℕ) (table : List (set.FinSet nat_cmp)) : Type 0 where
  pub is_catalog : IsCatalog catalog
  pub names : bytes_of name_keys ≡ map (λ section. section.name) catalog.sections
  pub seats : seat_list ≡ map (λ section. section.seats) catalog.sections
  pub courses : course_list ≡ course_numbers catalog.sections
  pub clashes : IsClashTable (map (λ section. section.meetings) catalog.sections)
      (course_numbers catalog.sections) (map (λ section. section.parts) catalog.sections) table
