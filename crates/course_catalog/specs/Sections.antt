-- Sections, as a catalogue lists them.
use Rattle.std.specs.Prelude.{ℕ, ◌≡◌, ◌≢◌, ◌≤◌, ◌⊎◌, IsTrue, Bool, ◌&&◌, ◌||◌, ◌==◌, not, List, [], All, length, map, slice_index_or}
use Rattle.std.specs.Str.{bytes_eq}
use Rattle.market_units.specs.declared.limits.TheConstants.{MAX_MEETINGS, MAX_SEATS, MAX_SECTION_CREDITS}
use Rattle.market_units.specs.Names.{IsName}
use Rattle.timetable_rules.specs.declared.meeting.Meeting.{Meeting}
use Rattle.timetable_rules.specs.Meeting.{IsMeeting}
use Rattle.timetable_rules.specs.declared.parts.Parts.{Parts}
use Rattle.timetable_rules.specs.Parts.{SharePart, no_part, share_part}
use Rattle.timetable_rules.specs.Overlap.{SomeOverlap, some_overlap}

-- a section: its name, the name of its course, its seats, its credits, its meetings, and the parts
-- of the term in which it runs
pub record Section : Type 0 where
  pub name : List ℕ
  pub course : List ℕ
  pub seats : ℕ
  pub credits : ℕ
  pub meetings : List Meeting
  pub parts : Parts

-- a section of two names, within its ranges
pub record IsSection (section : Section) : Type 0 where
  pub name_is : IsName section.name
  pub course_is : IsName section.course
  pub few_seats : section.seats ≤ MAX_SEATS
  pub few_credits : section.credits ≤ MAX_SECTION_CREDITS
  pub few_meetings : length section.meetings ≤ MAX_MEETINGS
  pub each_meeting : All IsMeeting section.meetings
  pub some_part : IsTrue (section.parts.first || section.parts.second)

-- the section that an ordinal beyond the last one stands for: of no name, without seats, credits,
-- meetings and parts
abbrev pub no_section : Section
no_section =
    record { name = []; course = []; seats = 0; credits = 0; meetings = []; parts = no_part }

-- the section of an ordinal
abbrev pub section_at : List Section → ℕ → Section
section_at sections s = slice_index_or sections s no_section

-- the names of sections, in order
abbrev pub section_names : List Section → List (List ℕ)
section_names sections = map (λ section. section.name) sections

-- Two different sections clash: they have the same course, or share a part of the term and a
-- meeting of the one overlaps a meeting of the other.
pub record SectionsClash (sections : List Section) (a b : ℕ) : Type 0 where
  pub different : a ≢ b
  pub cause : ((section_at sections a).course ≡ (section_at sections b).course)
      ⊎
      (SharePart (section_at sections a).parts (section_at sections b).parts
      × SomeOverlap (section_at sections a).meetings (section_at sections b).meetings)

-- the same as a test, for definitions that compute
abbrev pub sections_clash : List Section → ℕ → ℕ → Bool
sections_clash sections a b =
    let one = section_at sections a in
    let other = section_at sections b in
    not (a == b)
    && (bytes_eq one.course other.course
    || (share_part one.parts other.parts && some_overlap one.meetings other.meetings))
