use Rattle.std.proofs.Common.{◌<◌, ◌∙◌, ◌++◌, [], ◌∷◌, length, ap, sym, subst, get_or}
use Rattle.std.proofs.lemmas.List.{take_all}
use Rattle.bundle_rules.specs.Bundles.{sections_of}
use Rattle.bundle_rules.specs.Ordinals.{ordinals}
use Rattle.bundle_rules.specs.Sets.{IsAscending}
use Rattle.dropadd_desk.proofs.BundleParts.{next_in_bundle, one_more}
use Rattle.dropadd_desk.proofs.bundles.put_all.Goals as goal

pub with-whole-requires-clause-room : goal.with-whole-requires-clause-room
with-whole-requires-clause-room c =
    let next =
    next_in_bundle (sections_of c.args.bundle) c.args.sections.now c.loop-section.section-index (record { 0 = 0 }) c.loop-section-test.true c.requires in
    subst (λ l. length l < 8) (sym c.loop-section.invariant) next.0

pub with-whole-requires-clause-above : goal.with-whole-requires-clause-above
with-whole-requires-clause-above c =
    let next =
    next_in_bundle (sections_of c.args.bundle) c.args.sections.now c.loop-section.section-index (record { 0 = 0 }) c.loop-section-test.true c.requires in
    subst (λ l. IsAscending (l ++ (get_or c.args.sections.now c.loop-section.section-index (record { 0 = 0 })).0 ∷ [])) (sym c.loop-section.invariant) next.1

pub loop-section-preserved : goal.loop-section-preserved
loop-section-preserved c =
    c.with-whole.ensures ∙ ap (λ l. l ++ (get_or c.args.sections.now c.loop-section.section-index (record { 0 = 0 })).0 ∷ []) c.loop-section.invariant
    ∙ one_more (sections_of c.args.bundle) c.args.sections.now c.loop-section.section-index (record { 0 = 0 }) c.loop-section-test.true

pub returns : goal.returns
returns c = c.loop-section.invariant ∙ ap (λ l. sections_of c.args.bundle ++ ordinals l) (take_all _ _ c.loop-section-test.false)
