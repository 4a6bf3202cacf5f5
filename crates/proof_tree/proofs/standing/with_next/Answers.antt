use Rattle.std.proofs.Common.{◌≡◌, ◌≤◌, ◌+◌, ◌++◌, ◌∷◌, [], length, length-append, sym, ap, subst, ◌∙◌, arith}
use Rattle.bundle_rules.specs.Sets.{IsAscending}
use Rattle.bundle_rules.specs.Menus.{section_at, wishes_of}
use Rattle.bundle_rules.specs.Bundles.{sections_of}
use Rattle.bundle_rules.specs.Existence.Places.{section_at-is}
use Rattle.bundle_bounds.proofs.Openings.{open_facts, takable_where_open}
use Rattle.proof_tree.specs.Claims.{offer_in}
use Rattle.proof_tree.specs.Visits.{chosen_at}
use Rattle.proof_tree.proofs.standing.with_next.Goals as goal

pub with-requires-clause-room : goal.with-requires-clause-room
unfolding wishes_of
with-requires-clause-room c =
    let visit = c.args.visit.now in
    let menu = c.args.visit.now.claim.offer.now.menu.now in
    let chosen = sections_of c.args.visit.now.node.chosen in
    let takable =
    takable_where_open (offer_in visit.claim) c.len.ensures.menu visit.node.place chosen visit.is_node c.requires.left
    (open_facts (offer_in visit.claim) (chosen_at visit) visit.node.place c.requires.open) in
    let few : length (sections_of c.args.visit.now.node.chosen ++ section_at menu.places c.args.visit.now.node.place ∷ []) ≤ menu.courses =
    takable.feasible.courses in
    let cap : menu.courses ≤ 8 = c.len.ensures.menu.caps.courses_cap in
    let whole : length (sections_of c.args.visit.now.node.chosen ++ section_at menu.places c.args.visit.now.node.place ∷ [])
    ≡ length (sections_of c.args.visit.now.node.chosen) + 1 =
    length-append chosen (section_at menu.places visit.node.place ∷ []) in
    omega arith

pub with-requires-clause-above : goal.with-requires-clause-above
with-requires-clause-above c =
    let visit = c.args.visit.now in
    let menu = visit.claim.offer.now.menu.now in
    let chosen = sections_of visit.node.chosen in
    let takable =
    takable_where_open (offer_in visit.claim) c.len.ensures.menu visit.node.place chosen visit.is_node c.requires.left
    (open_facts (offer_in visit.claim) (chosen_at visit) visit.node.place c.requires.open) in
    subst (λ s. IsAscending (chosen ++ s ∷ [])) (section_at-is menu.places visit.node.place c.rated-rated.result.now c.rated-rated.ensures.value)
    takable.feasible.set

pub returns-clause-chosen : goal.returns-clause-chosen
returns-clause-chosen c =
    let visit = c.args.visit.now in
    let menu = visit.claim.offer.now.menu.now in
    c.with.ensures
    ∙ ap (λ s. sections_of visit.node.chosen ++ s ∷ [])
    (sym (section_at-is menu.places visit.node.place c.rated-rated.result.now c.rated-rated.ensures.value))
