use Rattle.std.proofs.Common.{map}
use Rattle.std.specs.Prelude.{codes}
use Rattle.course_catalog.specs.Sections.{section_names}
use Rattle.student_roll.specs.Students.{names_of}
use Rattle.fairness_audit.specs.Texts.{part_lines}
use Rattle.fairness_audit.specs.Views.{row_of}
use Rattle.fairness_audit.proofs.RowTexts.{both_parts}
use Rattle.fairness_audit.proofs.text.put_rows.Goals as goal

pub returns : goal.returns
returns c =
    both_parts c.new-text.result.items c.put_part.new.text.items c.put_part-2.new.text.items (part_lines (codes "settled") (names_of c.args.roll.now.students) (section_names c.args.catalog.now.sections) (map row_of c.args.settled.now))
    (part_lines (codes "final") (names_of c.args.roll.now.students) (section_names c.args.catalog.now.sections) (map row_of c.args.last.now)) c.new-text.ensures.items c.in_ok-put_part.ensures c.in_ok-put_part-2.ensures
