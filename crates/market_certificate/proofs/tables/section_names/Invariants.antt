use Rattle.std.proofs.Common.{◌≡◌, map, take}
use Rattle.market_units.specs.Name.{name_bytes}
use Rattle.course_catalog.specs.Sections.{section_names}
use Rattle.market_certificate.proofs.tables.section_names.Given as goal

abbrev pub invariant-loop-section : goal.invariant-loop-section
invariant-loop-section l = map name_bytes l.names.items ≡ section_names (take l.section l.catalog.sections)
