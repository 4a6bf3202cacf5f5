-- Students by number.
use Rattle.std.specs.Prelude.{ℕ, List, slice_index_or}
use Rattle.student_roll.specs.Students.{Student, no_student}

-- the student of a number; a number that no student has stands for one of no name and with caps of
-- 0
abbrev pub student_at : List Student → ℕ → Student
student_at students k = slice_index_or students k no_student
