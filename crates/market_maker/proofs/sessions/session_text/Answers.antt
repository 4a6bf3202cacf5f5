use Rattle.std.proofs.Common.{◌≡◌, ◌+◌, ◌%◌, true, false, arith}
use Rattle.std.specs.Prelude.{◌==◌}
use Rattle.std.proofs.lemmas.Bool.Decides.{nat_tests}
use Rattle.market_maker.specs.Sessions.{student_lines}
use Rattle.market_maker.proofs.Growing.{lines_more, lines_same}
use Rattle.market_maker.proofs.sessions.session_text.Goals as goal

pub students-preserved-then-student-rest : goal.students-preserved-then-student-rest
students-preserved-then-student-rest c =
    let out : ((c.students.earlier + 1) % 2 == c.args.rest) ≡ false = grind (arith, nat_tests) in
    lines_same (λ i. i % 2 == c.args.rest) (student_lines c.args.wishes.seed c.args.wishes.sections) c.students.earlier (c.students.earlier + 1) c.students.text.items
    (omega arith) out c.students.invariant

pub students-preserved : goal.students-preserved
students-preserved c =
    let among : ((c.students.earlier + 1) % 2 == c.args.rest) ≡ true = grind (arith, nat_tests) in
    lines_more (λ i. i % 2 == c.args.rest) (student_lines c.args.wishes.seed c.args.wishes.sections) c.students.earlier (c.students.earlier + 1) c.students.text.items
    c.put_student.new.text.items (omega arith) among c.students.invariant c.in_ok-put_student.ensures
