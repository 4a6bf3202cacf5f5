use Rattle.std.specs.Prelude.{option_map}
use Rattle.course_catalog.specs.Sections.{section_names}
use Rattle.student_roll.specs.Students.{names_of}
use Rattle.fairness_audit.specs.Texts.{counts_line, first_lines}
use Rattle.fairness_audit.specs.Views.{seen_of}
use Rattle.fairness_audit.proofs.RowTexts.{line_first}
use Rattle.fairness_audit.proofs.text.put_row.Goals as goal

pub returns : goal.returns
returns c =
    line_first c.args.text.now.items (counts_line c.args.part.now c.args.name.now c.args.row.lower c.args.row.higher c.args.row.beyond)
    c.put_counts.new.text.items c.put_first.new.text.items
    (first_lines (names_of c.args.roll.now.students) (section_names c.args.catalog.now.sections) (option_map seen_of c.args.row.first))
    (rw c.of.ensures.value at c.in_ok-put_counts.ensures) c.in_ok-put_first.ensures
