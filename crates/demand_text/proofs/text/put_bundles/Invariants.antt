use Rattle.std.proofs.Common.{◌≡◌, ◌++◌, map, take}
use Rattle.bundle_rules.specs.Bundles.{sections_of}
use Rattle.market_certificate.specs.Lines.{joined}
use Rattle.course_catalog.specs.Sections.{section_names}
use Rattle.market_certificate.specs.Texts.{each_line}
use Rattle.student_roll.specs.Students.{names_of}
use Rattle.demand_text.specs.Texts.{taken_line}
use Rattle.demand_text.proofs.text.put_bundles.Given as goal

abbrev pub invariant-students : goal.invariant-students
invariant-students l =
    l.text.items
    ≡ l.initial.text.items
    ++ joined
    (each_line (taken_line (section_names l.catalog.sections)) (take l.student (names_of l.roll.students))
    (take l.student (map sections_of l.bundles)))
