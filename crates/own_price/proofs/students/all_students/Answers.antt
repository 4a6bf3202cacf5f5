use Rattle.std.proofs.Common.{refl, rules}
use Rattle.own_price.proofs.Raising.{students_more}
use Rattle.own_price.proofs.students.all_students.Goals as goal

pub loop-student-preserved : goal.loop-student-preserved
loop-student-preserved c =
    students_more c.loop-student.students.items c.push.new.self.items c.loop-student.student (record { 0 = c.loop-student.student }) c.loop-student.invariant
    (search rules) refl
