use Rattle.std.proofs.Common.{◌≡◌, ◌++◌, ◌∷◌, take}
use Rattle.std.specs.List.{flat_map}
use Rattle.market_certificate.specs.Tables.{name_at}
use Rattle.student_roll.specs.Students.{names_of}
use Rattle.dropadd_hall.proofs.lines.put_students.Given as goal

-- the names of the students so far
abbrev pub invariant-students : goal.invariant-students
invariant-students l = l.text.items ≡ l.initial.text.items ++ flat_map (λ i. 32 ∷ name_at (names_of l.roll.students) i) (take l.student-index l.students)
