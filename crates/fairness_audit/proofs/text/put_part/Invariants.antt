use Rattle.std.proofs.Common.{◌≡◌, ◌++◌, map, take}
use Rattle.market_certificate.specs.Lines.{joined}
use Rattle.course_catalog.specs.Sections.{section_names}
use Rattle.student_roll.specs.Students.{names_of}
use Rattle.fairness_audit.specs.Texts.{rows_lines}
use Rattle.fairness_audit.specs.Views.{row_of}
use Rattle.fairness_audit.proofs.text.put_part.Given as goal

abbrev pub invariant-students : goal.invariant-students
invariant-students l =
    l.text.items
    ≡ l.initial.text.items
    ++ joined
    (rows_lines l.part (names_of l.roll.students) (section_names l.catalog.sections) (take l.student (names_of l.roll.students))
    (take l.student (map row_of l.rows)))
