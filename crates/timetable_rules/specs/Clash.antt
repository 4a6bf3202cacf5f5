-- Sections that clash.
use Rattle.std.specs.Prelude.{ℕ, ◌≡◌, ◌≢◌, ◌<◌, ◌⊎◌, ◌↔◌, IsTrue, Bool, ◌&&◌, ◌||◌, ◌==◌, not, List, [], length, slice_index, slice_index_or, nat_lt}
use Rattle.std.specs.Ordering.{nat_cmp}
use Rattle.std.specs.FinSet as set
use Rattle.timetable_rules.specs.declared.meeting.Meeting.{Meeting}
use Rattle.timetable_rules.specs.declared.parts.Parts.{Parts}
use Rattle.timetable_rules.specs.Overlap.{SomeOverlap, some_overlap}
use Rattle.timetable_rules.specs.Parts.{SharePart, no_part, share_part}

-- Two different sections, by ordinal, clash: they have the same course, or share a part of the term
-- and a meeting of the one overlaps a meeting of the other.
pub record Clash (meetings : List (List Meeting)) (courses : List ℕ) (parts : List Parts)
    (a b : ℕ) : Type 0 where
  pub different : a ≢ b
  pub cause : (slice_index courses a ≡ slice_index courses b)
      ⊎
      (SharePart (slice_index_or parts a no_part) (slice_index_or parts b no_part)
      × SomeOverlap (slice_index_or meetings a []) (slice_index_or meetings b []))

-- the same as a test, for definitions that compute
abbrev pub clashes : List (List Meeting) → List ℕ → List Parts → ℕ → ℕ → Bool
clashes meetings courses parts a b =
    not (a == b)
    && (slice_index courses a == slice_index courses b
    || (share_part (slice_index_or parts a no_part) (slice_index_or parts b no_part) && some_overlap (slice_index_or meetings a []) (slice_index_or meetings b [])))

-- what a table says of two sections: the second is in the set of the first
abbrev pub tells : List (set.FinSet nat_cmp) → ℕ → ℕ → Bool
tells table a b = set.contains (slice_index_or table a set.empty) b

-- the rows of the sections before one tell which of them clash
pub record AreEarlierRows (meetings : List (List Meeting)) (courses : List ℕ) (parts : List Parts)
    (section : ℕ) (rows : List (set.FinSet nat_cmp)) : Type 0 where
  pub count : length rows ≡ section
  pub told : (a b : ℕ) → a < section
      → tells rows a b ≡ (nat_lt b section && clashes meetings courses parts a b)

-- The table is the relation of clashes of these sections.
pub record IsClashTable (meetings : List (List Meeting)) (courses : List ℕ) (parts : List Parts)
    (table : List (set.FinSet nat_cmp)) : Type 0 where
  pub sections : length table ≡ length courses
  pub relation : (a b : ℕ) → a < length courses → b < length courses
      → IsTrue (tells table a b) ↔ Clash meetings courses parts a b
  pub test : (a b : ℕ) → a < length courses → b < length courses
      → tells table a b ≡ clashes meetings courses parts a b
