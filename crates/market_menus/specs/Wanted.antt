-- What a student wants and may take, by the catalogue, the closed preferences and the roll.
use Rattle.std.specs.Prelude.{ℕ, ℤ, pos, ◌<◌, List, All, unwrap_or}
use Rattle.std.specs.FinMap.{entries, get}
use Rattle.bundle_rules.specs.Agreement.{Agrees}
use Rattle.bundle_rules.specs.Menus.{MenuData, wishes_of}
use Rattle.bundle_rules.specs.Wishes.{Wishes}
use Rattle.course_catalog.specs.Sections.{Section, section_at as listed, sections_clash}
use Rattle.preference_desk.specs.StudentPreferences.{StudentPreferences, pair_of}
use Rattle.student_roll.specs.Students.{Student}
use Rattle.market_menus.specs.MenusOf.{IsMenuOf}

-- the ratings and adjustments of the preferences, the credits and clashes of the catalogue, and the
-- caps of the roll
abbrev pub wishes_from : List Section → Student → StudentPreferences → Wishes
wishes_from catalog student wanted = record {
  rating = λ s. unwrap_or (get wanted.ratings s) 0;
  adjustment = λ s t. unwrap_or (get wanted.pairs (pair_of s t)) (pos 0);
  credits = λ s. (listed catalog s).credits;
  clash = sections_clash catalog;
  credit_cap = student.credits;
  course_cap = student.courses;
}

-- each adjusted pair has the lower section first
abbrev pub HasLowerFirst : StudentPreferences → Type 0
HasLowerFirst wanted =
    All (λ (adjusted : (ℕ × ℕ) × ℤ). adjusted.0.0 < adjusted.0.1) (entries wanted.pairs)

-- a student's menu says what the student wants and may take, of all sections that are rated
abbrev pub MenuSaysWhatIsWanted : Type 0
MenuSaysWhatIsWanted =
    (catalog : List Section) (student : Student) (wanted : StudentPreferences) (menu : MenuData)
    → HasLowerFirst wanted → IsMenuOf catalog student wanted menu
    → Agrees (wishes_of menu) (wishes_from catalog student wanted)
