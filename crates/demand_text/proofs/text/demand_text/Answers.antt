use Rattle.course_catalog.specs.Sections.{section_names}
use Rattle.market_certificate.specs.Texts.{each_line, error_line, order_line}
use Rattle.student_roll.specs.Students.{names_of}
use Rattle.preference_desk.specs.Journals.{sessions_of}
use Rattle.demand_text.specs.Texts.{count_line, taken_line}
use Rattle.demand_text.proofs.LineTexts.{text_whole}
use Rattle.demand_text.proofs.text.demand_text.Goals as goal

pub returns : goal.returns
returns c =
    text_whole (each_line (taken_line (section_names c.args.catalog.now.sections)) (names_of c.args.roll.now.students) c.args.taken.now.bundles)
    (each_line count_line (section_names c.args.catalog.now.sections) c.args.taken.now.counts)
    (order_line (sessions_of c.args.journal.now)) (error_line c.args.taken.now.error) c.new-text.result.items c.put_order.new.text.items
    c.put_bundles.new.text.items c.put_counts.new.text.items c.put_error.new.text.items
    c.new-text.ensures.items c.in_ok-put_order.ensures (rw c.bundles.ensures at c.in_ok-put_bundles.ensures) (rw c.counts.ensures at c.in_ok-put_counts.ensures)
    (rw c.error.ensures at c.in_ok-put_error.ensures)
