use Rattle.std.proofs.Common.{◌∙◌, get_or}
use Rattle.market_units.specs.Name.{name_bytes}
use Rattle.student_roll.specs.Students.{names_of}
use Rattle.dropadd_hall.proofs.LineJoins.{student_listed, student_name_at}
use Rattle.dropadd_hall.proofs.lines.put_students.Goals as goal

pub students-preserved : goal.students-preserved
students-preserved c =
    let k = c.students.student-index in
    let named =
    c.bytes.ensures.value
    ∙ student_name_at c.args.roll.now.students (get_or c.args.students.now k 0) (name_bytes c.name.result) (c.requires k 0 c.students-test.true)
    c.name.ensures in
    student_listed (names_of c.args.roll.now.students) c.args.students.now k c.args.text.now.items c.students.text.items c.put_field.new.text.items
    c.bytes.result.now c.students-test.true c.students.invariant c.in_ok-put_field.ensures named
