use Rattle.std.proofs.Common.{◌∙◌, ℕ, ◌<◌, length, arith}
use Rattle.std.specs.Prelude.{slice_index_or}
use Rattle.std.proofs.lemmas.List.{get_or_default}
use Rattle.bundle_rules.specs.Bundles.{sections_of}
use Rattle.market_certificate.proofs.Joins.{section_below}
use Rattle.market_certificate.proofs.SectionNames.{section_more}
use Rattle.market_certificate.proofs.bundle_fields.put_bundle_field.Goals as goal

pub name-requires : goal.name-requires
name-requires c =
    section_below c.sections-section-items.result.now (sections_of c.args.bundle.now) (length c.args.catalog.now.sections) c.sections.place _
    c.sections-section-items.ensures.value c.requires (omega arith)

pub sections-preserved : goal.sections-preserved
sections-preserved c =
    let section = slice_index_or c.sections-section-items.result.now c.sections.place (record { 0 = 0 }) in
    let inside : c.sections.place < length c.sections-section-items.result.now = omega arith in
    section_more c.args.catalog.now.sections c.sections-section-items.result.now (sections_of c.args.bundle.now) c.sections.place section
    c.extend_from_slice.new.self.items c.sections.text.items c.put_comma_behind.new.text.items
    c.extend_from_slice-in-sections.new.self.items c.bytes.result.now c.sections-section-items.ensures.value inside
    (get_or_default c.sections-section-items.result.now c.sections.place (record { 0 = 0 }) section inside)
    (section_below c.sections-section-items.result.now (sections_of c.args.bundle.now) (length c.args.catalog.now.sections) c.sections.place (record { 0 = 0 })
    c.sections-section-items.ensures.value c.requires inside)
    c.sections.invariant c.in_ok-put_comma_behind.ensures c.in_ok-extend_from_slice-2.ensures.items (c.bytes.ensures.value ∙ c.name.ensures)
