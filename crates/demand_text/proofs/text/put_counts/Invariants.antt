use Rattle.std.proofs.Common.{◌≡◌, ◌++◌, take}
use Rattle.market_certificate.specs.Lines.{joined}
use Rattle.course_catalog.specs.Sections.{section_names}
use Rattle.market_certificate.specs.Texts.{each_line}
use Rattle.demand_text.specs.Texts.{count_line}
use Rattle.demand_text.proofs.text.put_counts.Given as goal

abbrev pub invariant-sections : goal.invariant-sections
invariant-sections l =
    l.text.items ≡ l.initial.text.items ++ joined (each_line count_line (take l.section (section_names l.catalog.sections)) (take l.section l.counts))
