-- The text of what a crowd takes at given prices.
use Rattle.std.specs.Prelude.{ℕ, List, [], ◌∷◌, ◌++◌, codes}
use Rattle.std.specs.Fmt.{decimal}
use Rattle.course_catalog.specs.Sections.{Section, section_names}
use Rattle.market_certificate.specs.Lines.{joined, spaced}
use Rattle.market_certificate.specs.Texts.{bundle_text, each_line, error_line, order_line}
use Rattle.preference_desk.specs.Journals.{sessions_of}
use Rattle.preference_desk.specs.declared.entry.Entry.{Entry}
use Rattle.student_roll.specs.Students.{Student, names_of}
use Rattle.demand_text.specs.Taken.{TakenData}

-- the line of what a student takes: its name, and the names of the sections
abbrev pub taken_line : List (List ℕ) → List ℕ → List ℕ → List ℕ
taken_line sections name bundle = spaced (codes "bundle" ∷ name ∷ bundle_text sections bundle ∷ [])

-- the line of a section's count
abbrev pub count_line : List ℕ → ℕ → List ℕ
count_line name count = spaced (codes "count" ∷ name ∷ decimal count ∷ [])

-- The lines of what is taken after a journal: its order; each student's bundle and each section's
-- count, in file order; and the error.
abbrev pub demand_text : List Section → List Student → List Entry → TakenData → List ℕ
demand_text sections students journal taken =
    joined (
    order_line (sessions_of journal)
    ∷ (each_line (taken_line (section_names sections)) (names_of students) taken.bundles
    ++ (each_line count_line (section_names sections) taken.counts
    ++ error_line taken.error ∷ []))
    )
