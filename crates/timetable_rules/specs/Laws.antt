-- What holds of the definitions.
use Rattle.std.specs.Prelude.{ℕ, ◌≡◌, ◌↔◌, List, Some, IsTrue, false}
use Rattle.timetable_rules.specs.declared.meeting.Meeting.{Meeting}
use Rattle.timetable_rules.specs.declared.parts.Parts.{Parts}
use Rattle.timetable_rules.specs.Spelling.{Spells}
use Rattle.timetable_rules.specs.Spelled.{spelled}
use Rattle.timetable_rules.specs.Clash.{Clash, clashes}
use Rattle.timetable_rules.specs.Overlap.{SomeOverlap, some_overlap}
use Rattle.timetable_rules.specs.Parts.{SharePart, SpellsParts, share_part, spelled_parts}

-- a text spells one list of meetings at most
abbrev pub OneReading : Type 0
OneReading =
    (text : List ℕ) (ones others : List Meeting) → Spells text ones → Spells text others
    → ones ≡ others

-- what a text spells, as a function, is what the relation says
abbrev pub SpelledIsSpelling : Type 0
SpelledIsSpelling =
    (text : List ℕ) (meetings : List Meeting)
    → (spelled text ≡ Some meetings) ↔ Spells text meetings

-- what a text spells of parts, as a function, is what the relation says
abbrev pub PartsSpelledIsSpelling : Type 0
PartsSpelledIsSpelling =
    (text : List ℕ) (parts : Parts) → (spelled_parts text ≡ Some parts) ↔ SpellsParts text parts

-- the test of a shared part is the relation
abbrev pub SharedPartTestIsRelation : Type 0
SharedPartTestIsRelation =
    (ones others : Parts) → IsTrue (share_part ones others) ↔ SharePart ones others

-- the test of overlapping meetings is the relation
abbrev pub OverlapTestIsRelation : Type 0
OverlapTestIsRelation =
    (ones others : List Meeting) → IsTrue (some_overlap ones others) ↔ SomeOverlap ones others

-- the test of clashing sections is the relation
abbrev pub ClashTestIsRelation : Type 0
ClashTestIsRelation =
    (meetings : List (List Meeting)) (courses : List ℕ) (parts : List Parts) (a b : ℕ)
    → IsTrue (clashes meetings courses parts a b) ↔ Clash meetings courses parts a b

-- two sections clash whichever is named first, and no section clashes with itself
pub record AreMutual (meetings : List (List Meeting)) (courses : List ℕ) (parts : List Parts)
    (a b : ℕ) : Type 0 where
  pub other_way : clashes meetings courses parts a b ≡ clashes meetings courses parts b a
  pub not_itself : clashes meetings courses parts a a ≡ false

abbrev pub ClashesAreMutual : Type 0
ClashesAreMutual =
    (meetings : List (List Meeting)) (courses : List ℕ) (parts : List Parts) (a b : ℕ)
    → AreMutual meetings courses parts a b
