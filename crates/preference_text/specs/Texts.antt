-- The text of a journal and of the preferences after it.
use Rattle.std.specs.Prelude.{ℕ, ℤ, List, [], ◌∷◌, ◌++◌}
use Rattle.std.specs.FinMap.{entries}
use Rattle.std.specs.List.{flat_map}
use Rattle.course_catalog.specs.Sections.{Section, section_at}
use Rattle.student_roll.specs.Students.{Student}
use Rattle.utility_language.specs.Commands.{HasShortNumber}
use Rattle.preference_desk.specs.declared.entry.Entry.{Entry}
use Rattle.preference_desk.specs.Journals.{closed_preferences}
use Rattle.preference_desk.specs.MarketNames.{market_names}
use Rattle.preference_desk.specs.StudentPreferences.{StudentPreferences}
use Rattle.preference_text.specs.Lines.{adjustment_line, entry_line, rating_line}

-- the lines of a journal: those of its entries, in their order
abbrev pub journal_text : List Entry → List ℕ
journal_text journal = flat_map entry_line journal

-- a student's lines of ratings
abbrev pub ratings_text : List Section → List ℕ → List (ℕ × ℕ) → List ℕ
ratings_text sections student ratings =
    flat_map (λ rated. rating_line student (section_at sections rated.0).name rated.1) ratings

-- a student's lines of adjustments
abbrev pub adjustments_text : List Section → List ℕ → List ((ℕ × ℕ) × ℤ) → List ℕ
adjustments_text sections student pairs =
    flat_map
    (λ adjusted. adjustment_line student (section_at sections adjusted.0.0).name
    (section_at sections adjusted.0.1).name adjusted.1)
    pairs

-- the lines of what a student wants: the ratings by ascending section, then the adjustments by
-- ascending pair, each with its lower section first
abbrev pub student_text : List Section → List ℕ → StudentPreferences → List ℕ
student_text sections student wanted =
    ratings_text sections student (entries wanted.ratings)
    ++ adjustments_text sections student (entries wanted.pairs)

-- the lines of what all students want, student by student in file order; there are as many students
-- as preferences
abbrev pub wanted_text : List Section → List Student → List StudentPreferences → List ℕ
wanted_text sections (student ∷ students) (wanted ∷ more) =
    student_text sections student.name wanted ++ wanted_text sections students more
wanted_text sections [] more = []
wanted_text sections (student ∷ students) [] = []

-- the lines of a journal, and behind them those of what the students want after all its entries
abbrev pub preferences_text : List Section → List Student → List Entry → List ℕ
preferences_text sections students journal =
    journal_text journal
    ++ wanted_text sections students (closed_preferences (market_names sections students) journal)

-- the number of an entry's command, where it has one, has at most six digits
abbrev pub HasShortCommand : Entry → Type 0
HasShortCommand entry = HasShortNumber entry.command
