use Rattle.std.proofs.Common.{◌+◌, arith}
use Rattle.market_maker.specs.Lines.{ended}
use Rattle.market_maker.specs.Rolls.{roll_header, student_row}
use Rattle.market_maker.proofs.Growing.{line_more}
use Rattle.market_maker.proofs.roll.roll_text.Goals as goal

pub students-preserved : goal.students-preserved
students-preserved c =
    line_more student_row 1 c.students.earlier (c.students.earlier + 1) (ended roll_header) c.students.text.items c.put_student.new.text.items (omega arith)
    c.students.invariant c.in_ok-put_student.ensures
