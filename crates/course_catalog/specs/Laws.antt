-- What holds of the definitions.
use Rattle.std.specs.Prelude.{ℕ, ◌≡◌, ◌<◌, ◌↔◌, IsTrue, false, List, length}
use Rattle.course_catalog.specs.Sections.{Section, SectionsClash, section_at, sections_clash}
use Rattle.course_catalog.specs.Courses.{course_number}

-- the test of clashing sections is the relation
abbrev pub SectionsClashByTest : Type 0
SectionsClashByTest =
    (sections : List Section) (a b : ℕ)
    → IsTrue (sections_clash sections a b) ↔ SectionsClash sections a b

-- two sections have one course number exactly where they have one course
abbrev pub CourseNumbersTellCourses : Type 0
CourseNumbersTellCourses =
    (sections : List Section) (a b : ℕ) → a < length sections → b < length sections
    →
    (course_number sections (section_at sections a).course
    ≡ course_number sections (section_at sections b).course)
    ↔ ((section_at sections a).course ≡ (section_at sections b).course)

-- two sections clash whichever is named first, and no section clashes with itself
pub record AreMutual (sections : List Section) (a b : ℕ) : Type 0 where
  pub other_way : sections_clash sections a b ≡ sections_clash sections b a
  pub not_itself : sections_clash sections a a ≡ false

abbrev pub SectionsClashMutually : Type 0
SectionsClashMutually = (sections : List Section) (a b : ℕ) → AreMutual sections a b
