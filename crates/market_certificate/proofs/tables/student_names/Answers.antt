use Rattle.std.proofs.Common.{arith}
use Rattle.market_certificate.proofs.NamesOf.{students_more}
use Rattle.market_certificate.proofs.tables.student_names.Goals as goal

pub loop-student-preserved : goal.loop-student-preserved
loop-student-preserved c =
    students_more c.args.roll.now.students c.loop-student.names.items c.push.new.self.items c.loop-student.student c.name.result (omega arith)
    c.loop-student.invariant c.name.ensures c.in_ok-push.ensures.items
