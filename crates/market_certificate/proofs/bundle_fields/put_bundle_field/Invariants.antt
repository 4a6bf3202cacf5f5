use Rattle.std.proofs.Common.{◌≡◌, ◌++◌, map, take}
use Rattle.std.specs.List.{join_with_byte}
use Rattle.bundle_rules.specs.Bundles.{sections_of}
use Rattle.course_catalog.specs.Sections.{section_names}
use Rattle.market_certificate.specs.Tables.{name_at}
use Rattle.market_certificate.proofs.bundle_fields.put_bundle_field.Given as goal

abbrev pub invariant-sections : goal.invariant-sections
invariant-sections l =
    l.text.items ≡ l.initial.text.items ++ join_with_byte 44 (map (name_at (section_names l.catalog.sections)) (take l.place (sections_of l.bundle)))
