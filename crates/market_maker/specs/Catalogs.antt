-- The catalogue of a made market. Its sections are numbered from 1.
use Rattle.std.specs.Prelude.{ℕ, ◌+◌, ◌*◌, ◌/◌, ◌%◌, List, [], ◌∷◌, ◌++◌, codes, map, slice_index}
use Rattle.std.specs.Fmt.{decimal}
use Rattle.timetable_rules.specs.Spelling.{clock}
use Rattle.market_maker.specs.Lines.{numbers_to, row_of, text_of}

-- `C1`, `C2` ..
abbrev pub section_name : ℕ → List ℕ
section_name j = codes "C" ++ decimal j

-- two sections a course: `K1`, `K1`, `K2`, `K2` ..
abbrev pub course_name : ℕ → List ℕ
course_name j = codes "K" ++ decimal ((j + 1) / 2)

-- the first letter of the day of a section's meeting, from Monday to Friday, where R is Thursday
abbrev pub day_of : ℕ → ℕ
day_of j = slice_index (codes "MTWRF") (j % 5)

-- when the meeting starts, in minutes after midnight
abbrev pub start_of : ℕ → ℕ
start_of j = 480 + 90 * (j % 6)

-- the meeting: it lasts 80 minutes
abbrev pub meeting_of : ℕ → List ℕ
meeting_of j = day_of j ∷ (clock (start_of j) ++ 45 ∷ clock (start_of j + 80))

-- a section's row, where there are so many students: section, course, seats, credits, meetings
abbrev pub section_row : ℕ → ℕ → List ℕ
section_row students j =
    row_of
    (section_name j ∷ course_name j ∷ decimal (1 + students / 4) ∷ decimal (1 + j % 3)
    ∷ meeting_of j ∷ [])

abbrev pub catalog_header : List ℕ
catalog_header = row_of (codes "section" ∷ codes "course" ∷ codes "seats" ∷ codes "credits" ∷ codes "meetings" ∷ [])

-- the header, and a row for each section
abbrev pub catalog_text : ℕ → ℕ → List ℕ
catalog_text students sections =
    text_of (catalog_header ∷ map (section_row students) (numbers_to sections))
