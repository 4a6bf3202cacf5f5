use Rattle.std.proofs.Common.{◌≤◌, ◌<◌, ◌∙◌, ◌++◌, [], ◌∷◌, length, take, drop, ap, sym, subst}
use Rattle.bundle_rules.specs.Bundles.{sections_of}
use Rattle.bundle_rules.specs.Ordinals.{ordinals, IsBundle}
use Rattle.bundle_rules.specs.Sets.{IsAscending}
use Rattle.dropadd_desk.specs.Sets.{with_section}
use Rattle.dropadd_desk.proofs.BundleParts.{widened_at, place_most, same_three}
use Rattle.dropadd_desk.proofs.bundles.with_section.Goals as goal

pub split_at-requires : goal.split_at-requires
split_at-requires c =
    subst (λ n. n ≤ length c.sections-sections.result.now) (sym c.place_of-place.ensures) (place_most c.args.section.0 c.sections-sections.result.now)

pub put_all-below-requires : goal.put_all-below-requires
put_all-below-requires c =
    let is =
    widened_at c.args.section.0 c.sections-sections.result.now (sections_of c.args.bundle.now) c.sections-sections.ensures.value
    c.sections-sections.ensures.bundle c.requires.room c.requires.new in
    subst IsBundle
    (sym
    (ap (λ l. l ++ ordinals c.split_at.result.0.now) c.empty.ensures ∙ ap ordinals c.split_at.ensures.front
    ∙ ap (λ n. ordinals (take n c.sections-sections.result.now)) c.place_of-place.ensures))
    is.lower

pub with-requires-clause-room : goal.with-requires-clause-room
with-requires-clause-room c =
    let is =
    widened_at c.args.section.0 c.sections-sections.result.now (sections_of c.args.bundle.now) c.sections-sections.ensures.value
    c.sections-sections.ensures.bundle c.requires.room c.requires.new in
    subst (λ l. length l < 8)
    (sym
    (c.put_all-below.ensures ∙ ap (λ l. l ++ ordinals c.split_at.result.0.now) c.empty.ensures ∙ ap ordinals c.split_at.ensures.front
    ∙ ap (λ n. ordinals (take n c.sections-sections.result.now)) c.place_of-place.ensures))
    is.room

pub with-requires-clause-above : goal.with-requires-clause-above
with-requires-clause-above c =
    let is =
    widened_at c.args.section.0 c.sections-sections.result.now (sections_of c.args.bundle.now) c.sections-sections.ensures.value
    c.sections-sections.ensures.bundle c.requires.room c.requires.new in
    subst (λ l. IsAscending (l ++ c.args.section.0 ∷ []))
    (sym
    (c.put_all-below.ensures ∙ ap (λ l. l ++ ordinals c.split_at.result.0.now) c.empty.ensures ∙ ap ordinals c.split_at.ensures.front
    ∙ ap (λ n. ordinals (take n c.sections-sections.result.now)) c.place_of-place.ensures))
    is.above

pub put_all-requires : goal.put_all-requires
put_all-requires c =
    let is =
    widened_at c.args.section.0 c.sections-sections.result.now (sections_of c.args.bundle.now) c.sections-sections.ensures.value
    c.sections-sections.ensures.bundle c.requires.room c.requires.new in
    let low =
    c.put_all-below.ensures ∙ ap (λ l. l ++ ordinals c.split_at.result.0.now) c.empty.ensures ∙ ap ordinals c.split_at.ensures.front
    ∙ ap (λ n. ordinals (take n c.sections-sections.result.now)) c.place_of-place.ensures in
    let high = ap ordinals c.split_at.ensures.back ∙ ap (λ n. ordinals (drop n c.sections-sections.result.now)) c.place_of-place.ensures in
    subst IsBundle (sym (same_three _ _ _ _ _ c.args.section.0 c.with.ensures low high)) is.bundle

pub returns : goal.returns
returns c =
    let is =
    widened_at c.args.section.0 c.sections-sections.result.now (sections_of c.args.bundle.now) c.sections-sections.ensures.value
    c.sections-sections.ensures.bundle c.requires.room c.requires.new in
    let low =
    c.put_all-below.ensures ∙ ap (λ l. l ++ ordinals c.split_at.result.0.now) c.empty.ensures ∙ ap ordinals c.split_at.ensures.front
    ∙ ap (λ n. ordinals (take n c.sections-sections.result.now)) c.place_of-place.ensures in
    let high = ap ordinals c.split_at.ensures.back ∙ ap (λ n. ordinals (drop n c.sections-sections.result.now)) c.place_of-place.ensures in
    c.put_all.ensures ∙ same_three _ _ _ _ _ c.args.section.0 c.with.ensures low high
    ∙ is.whole ∙ ap (with_section c.args.section.0) c.sections-sections.ensures.value
