use Rattle.std.proofs.Common.{ℕ, ◌<◌, length, sym, subst, arith}
use Rattle.bundle_rules.specs.Bundles.{sections_of}
use Rattle.market_certificate.proofs.Joins.{section_below, section_more}
use Rattle.market_certificate.proofs.writing.fields.put_bundle_field.Goals as goal

pub bounds-sections-from : goal.bounds-sections-from
bounds-sections-from c =
    subst (λ (n : ℕ). n < length c.args.sections.now) (sym c.from.ensures) (
    section_below c.sections-section-items.result.now (sections_of c.args.bundle.now) (length c.args.sections.now) c.sections.place _
    c.sections-section-items.ensures.value c.requires (omega arith)
    )

pub sections-preserved : goal.sections-preserved
sections-preserved c =
    section_more c.args.sections.now c.sections-section-items.result.now (sections_of c.args.bundle.now) c.sections.place c.from.result _ _
    c.index-sections-from.result c.bytes.result.now c.extend_from_slice.new.self.items c.sections.text.items
    c.put_comma_behind.new.text.items c.extend_from_slice-in-sections.new.self.items c.sections-section-items.ensures.value (omega arith) c.from.ensures (subst (λ (n : ℕ). n < length c.args.sections.now) (sym c.from.ensures) (
    section_below c.sections-section-items.result.now (sections_of c.args.bundle.now) (length c.args.sections.now) c.sections.place _
    c.sections-section-items.ensures.value c.requires (omega arith)
    )) c.index-sections-from.is c.bytes.ensures.value c.sections.invariant
    c.in_ok-put_comma_behind.ensures c.in_ok-extend_from_slice-2.ensures.items
