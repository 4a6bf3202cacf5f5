use Rattle.std.proofs.Common.{◌≡◌, ◌≤◌, ◌+◌, ◌++◌, ◌∷◌, [], length, length-append, sym, ap, subst, ◌∙◌, arith}
use Rattle.bundle_rules.specs.Sets.{IsAscending}
use Rattle.bundle_rules.specs.Menus.{section_at, wishes_of}
use Rattle.bundle_rules.specs.Bundles.{sections_of}
use Rattle.bundle_rules.specs.Existence.Places.{section_at-is}
use Rattle.bundle_bounds.specs.Offers.{offer_of, places_of}
use Rattle.bundle_bounds.proofs.Openings.{open_facts, takable_where_open}
use Rattle.demand_tests.proofs.tests.trees.with_next.Goals as goal

pub with-requires-clause-room : goal.with-requires-clause-room
unfolding wishes_of
with-requires-clause-room c =
    let o = c.requires.open in
    let offer = offer_of c.args.menu.now o.0 o.1 o.2 in
    let takable =
    takable_where_open offer c.len.ensures.menu c.args.node.now.place (sections_of c.args.node.now.chosen) o.3 c.requires.left
    (open_facts offer (places_of c.args.menu.now (sections_of c.args.node.now.chosen)) c.args.node.now.place o.4) in
    let few : length (sections_of c.args.node.now.chosen ++ section_at c.args.menu.now.places c.args.node.now.place ∷ []) ≤ c.args.menu.now.courses =
    takable.feasible.courses in
    let cap : c.args.menu.now.courses ≤ 8 = c.len.ensures.menu.caps.courses_cap in
    let whole : length (sections_of c.args.node.now.chosen ++ section_at c.args.menu.now.places c.args.node.now.place ∷ [])
    ≡ length (sections_of c.args.node.now.chosen) + 1 =
    length-append (sections_of c.args.node.now.chosen) (section_at c.args.menu.now.places c.args.node.now.place ∷ []) in
    omega arith

pub with-requires-clause-above : goal.with-requires-clause-above
with-requires-clause-above c =
    let o = c.requires.open in
    let offer = offer_of c.args.menu.now o.0 o.1 o.2 in
    let takable =
    takable_where_open offer c.len.ensures.menu c.args.node.now.place (sections_of c.args.node.now.chosen) o.3 c.requires.left
    (open_facts offer (places_of c.args.menu.now (sections_of c.args.node.now.chosen)) c.args.node.now.place o.4) in
    subst (λ s. IsAscending (sections_of c.args.node.now.chosen ++ s ∷ []))
    (section_at-is c.args.menu.now.places c.args.node.now.place c.rated-rated.result.now c.rated-rated.ensures.value) takable.feasible.set

pub returns-clause-chosen : goal.returns-clause-chosen
returns-clause-chosen c =
    c.with.ensures
    ∙ ap (λ s. sections_of c.args.node.now.chosen ++ s ∷ [])
    (sym (section_at-is c.args.menu.now.places c.args.node.now.place c.rated-rated.result.now c.rated-rated.ensures.value))
