use Rattle.std.proofs.Common.{◌≡◌, arith, sym, ◌∙◌}
use Rattle.course_catalog.specs.Sections.{section_names}
use Rattle.preference_desk.proofs.NameLemmas.{other_ordinals}
use Rattle.preference_desk.proofs.steps.pair.Goals as goal

pub invariant_of-sections : goal.invariant_of-sections
invariant_of-sections c =
    let apart : c.in-Some-section.one.0 ≡ c.in-Some-section-2.other.0 → ⊥ =
    other_ordinals (section_names c.args.names.now.catalog.sections) c.args.first.now c.args.second.now _ _ c.in-Some-section.ensures.has
    c.in-Some-section-2.ensures.has c.in-Some-section.ensures.ordinal c.in-Some-section-2.ensures.ordinal (sym c.eq.ensures ∙ c.if-eq.false) in
    record { order = omega (arith, apart) }
