use Rattle.std.proofs.Common.{◌≤◌, ◌+◌, ◌∙◌, ◌++◌, length, take, drop, ap, sym, subst}
use Rattle.bundle_rules.specs.Bundles.{sections_of}
use Rattle.bundle_rules.specs.Ordinals.{ordinals, IsBundle}
use Rattle.bundle_rules.specs.Sets.{without_section}
use Rattle.dropadd_desk.proofs.BundleParts.{narrowed_at, narrowed_place, place_most, same_two}
use Rattle.dropadd_desk.proofs.bundles.without_section.Goals as goal

pub split_at-requires : goal.split_at-requires
split_at-requires c =
    subst (λ n. n ≤ length c.sections-sections.result.now) (sym c.place_of-place.ensures) (place_most c.args.section.0 c.sections-sections.result.now)

pub split_at-requires-2 : goal.split_at-requires-2
split_at-requires-2 c =
    subst (λ n. n + 1 ≤ length c.sections-sections.result.now) (sym c.place_of-place.ensures)
    (narrowed_place c.args.section.0 c.sections-sections.result.now (sections_of c.args.bundle.now) c.sections-sections.ensures.value
    c.sections-sections.ensures.bundle c.requires).0

pub put_all-requires : goal.put_all-requires
put_all-requires c =
    let is =
    narrowed_at c.args.section.0 c.sections-sections.result.now (sections_of c.args.bundle.now) c.sections-sections.ensures.value
    c.sections-sections.ensures.bundle c.requires in
    subst IsBundle
    (sym
    (ap (λ l. l ++ ordinals c.split_at.result.0.now) c.empty.ensures ∙ ap ordinals c.split_at.ensures.front
    ∙ ap (λ n. ordinals (take n c.sections-sections.result.now)) c.place_of-place.ensures))
    is.lower

pub put_all-requires-2 : goal.put_all-requires-2
put_all-requires-2 c =
    let is =
    narrowed_at c.args.section.0 c.sections-sections.result.now (sections_of c.args.bundle.now) c.sections-sections.ensures.value
    c.sections-sections.ensures.bundle c.requires in
    let low =
    c.put_all.ensures ∙ ap (λ l. l ++ ordinals c.split_at.result.0.now) c.empty.ensures ∙ ap ordinals c.split_at.ensures.front
    ∙ ap (λ n. ordinals (take n c.sections-sections.result.now)) c.place_of-place.ensures in
    let high = ap ordinals c.split_at-2.ensures.back ∙ ap (λ n. ordinals (drop (n + 1) c.sections-sections.result.now)) c.place_of-place.ensures in
    subst IsBundle (sym (same_two _ _ _ _ low high)) is.bundle

pub returns : goal.returns
returns c =
    let is =
    narrowed_at c.args.section.0 c.sections-sections.result.now (sections_of c.args.bundle.now) c.sections-sections.ensures.value
    c.sections-sections.ensures.bundle c.requires in
    let low =
    c.put_all.ensures ∙ ap (λ l. l ++ ordinals c.split_at.result.0.now) c.empty.ensures ∙ ap ordinals c.split_at.ensures.front
    ∙ ap (λ n. ordinals (take n c.sections-sections.result.now)) c.place_of-place.ensures in
    let high = ap ordinals c.split_at-2.ensures.back ∙ ap (λ n. ordinals (drop (n + 1) c.sections-sections.result.now)) c.place_of-place.ensures in
    c.put_all-2.ensures ∙ same_two _ _ _ _ low high ∙ is.whole ∙ ap (without_section c.args.section.0) c.sections-sections.ensures.value
