-- The roll of a made market. Its students are numbered from 1.
use Rattle.std.specs.Prelude.{ℕ, List, [], ◌∷◌, ◌++◌, codes, map}
use Rattle.std.specs.Fmt.{decimal}
use Rattle.market_maker.specs.Lines.{numbers_to, row_of, text_of}

-- `S1`, `S2` ..
abbrev pub student_name : ℕ → List ℕ
student_name i = codes "S" ++ decimal i

-- a student's row: student, budget, credits, courses
abbrev pub student_row : ℕ → List ℕ
student_row i = row_of (student_name i ∷ codes "100000" ∷ codes "12" ∷ codes "4" ∷ [])

abbrev pub roll_header : List ℕ
roll_header = row_of (codes "student" ∷ codes "budget" ∷ codes "credits" ∷ codes "courses" ∷ [])

-- the header, and a row for each student
abbrev pub roll_text : ℕ → List ℕ
roll_text students = text_of (roll_header ∷ map student_row (numbers_to students))
