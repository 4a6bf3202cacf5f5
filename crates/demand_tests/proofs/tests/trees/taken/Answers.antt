use Rattle.std.proofs.Common.{rules, ◌≡◌, ◌≤◌, ◌<◌, ◌+◌, ◌++◌, ◌∷◌, [], true, length, sym, subst, ◌∙◌, arith}
use Rattle.plain_facts.proofs.Truths.{and_second}
use Rattle.bundle_rules.specs.Bundles.{sections_of}
use Rattle.bundle_rules.specs.Menus.{section_at}
use Rattle.bundle_bounds.specs.Offers.{offer_of, places_of}
use Rattle.bundle_bounds.specs.Opens.{is_open}
use Rattle.bundle_bounds.specs.Laws.{IsNode}
use Rattle.bundle_bounds.proofs.Openings.{node_later, node_same, node_with, open_facts, takable_where_open}
use Rattle.bundle_bounds.proofs.NodeFacts.{nothing_chosen}
use Rattle.demand_tests.proofs.tests.trees.taken.Goals as goal

pub sections-init : goal.sections-init
sections-init g c =
    subst (IsNode (offer_of c.args.menu.now c.args.prices.now c.args.budget.0 c.args.allowed.now) 0) (sym c.empty.ensures)
    (nothing_chosen (offer_of c.args.menu.now c.args.prices.now c.args.budget.0 c.args.allowed.now) 0)

pub with_next-node-requires-clause-open : goal.with_next-node-requires-clause-open
with_next-node-requires-clause-open g c =
    let offer = offer_of c.args.menu.now c.args.prices.now c.args.budget.0 c.args.allowed.now in
    let later : c.sections.node.place ≤ c.place-place.result = omega arith in
    let yes : c.is_open.result ≡ true = search rules in (
      c.args.prices.now,
      c.args.budget.0,
      c.args.allowed.now,
      node_later offer c.sections.node.place c.place-place.result (sections_of c.sections.node.chosen) later c.sections.invariant,
      and_second _ _ (sym c.is_open.ensures ∙ yes),
    )

pub sections-preserved : goal.sections-preserved
sections-preserved g c =
    let offer = offer_of c.args.menu.now c.args.prices.now c.args.budget.0 c.args.allowed.now in
    let k = c.place-place.result in
    let chosen = sections_of c.sections.node.chosen in
    let later : c.sections.node.place ≤ c.place-place.result = omega arith in
    let yes : c.is_open.result ≡ true = search rules in
    let low : c.place-place.result < length c.args.menu.now.places = rw (← c.len.ensures.value) (omega arith) in
    let node = node_later offer c.sections.node.place c.place-place.result (sections_of c.sections.node.chosen) later c.sections.invariant in
    let open_ : is_open offer (places_of c.args.menu.now (sections_of c.sections.node.chosen)) c.place-place.result ≡ true =
    and_second _ _ (sym c.is_open.ensures ∙ yes) in
    let takable =
    takable_where_open offer c.len.ensures.menu c.place-place.result (sections_of c.sections.node.chosen) node low
    (open_facts offer (places_of c.args.menu.now (sections_of c.sections.node.chosen)) c.place-place.result open_) in
    node_same offer (c.place-place.result + 1) c.with_next-node.result.place
    (sections_of c.sections.node.chosen ++ section_at c.args.menu.now.places c.place-place.result ∷ []) (sections_of c.with_next-node.result.chosen)
    (sym c.with_next-node.ensures.place) (sym c.with_next-node.ensures.chosen)
    (node_with offer c.place-place.result (sections_of c.sections.node.chosen) c.len.ensures.menu low node takable)

pub returns : goal.returns
returns g c = c.sections.invariant.takable
