use Rattle.std.proofs.Common.{ℕ, ◌<◌, List, length, arith}
use Rattle.std.specs.Prelude.{All}
use Rattle.bundle_rules.specs.Bundles.{sections_of}
use Rattle.course_catalog.specs.Sections.{section_names}
use Rattle.market_certificate.proofs.Joins.{value_each}
use Rattle.market_units.specs.Name.{name_bytes}
use Rattle.demand_text.proofs.LineTexts.{bundle_at, student_more}
use Rattle.demand_text.proofs.text.put_bundles.Goals as goal

pub put_taken-requires : goal.put_taken-requires
put_taken-requires c =
    value_each (λ (bundle : List ℕ). All (λ s. s < length c.args.catalog.now.sections) bundle) sections_of c.args.bundles.now c.students.student
    c.index-bundles-from.result c.requires.within (omega arith)
    (bundle_at c.args.bundles.now c.students.student c.from.result c.index-bundles-from.result (omega arith) c.from.ensures c.index-bundles-from.is)

pub students-preserved : goal.students-preserved
students-preserved c =
    student_more (section_names c.args.catalog.now.sections) c.args.roll.now.students c.args.bundles.now c.students.student (name_bytes c.name-name.result)
    c.index-bundles-from.result c.args.text.now.items c.students.text.items c.put_taken.new.text.items
    c.requires.each (omega arith) c.name-name.ensures
    (bundle_at c.args.bundles.now c.students.student c.from.result c.index-bundles-from.result (omega arith) c.from.ensures c.index-bundles-from.is)
    c.students.invariant c.in_ok-put_taken.ensures
