use Rattle.std.proofs.Common.{◌≡◌, ◌<◌, ◌≤◌, length, get_or, map, refl, sym, subst, arith}
use Rattle.market_certificate.specs.Views.{publication_of}
use Rattle.demand_api.proofs.Parts.{budgets_high, few_sections}
use Rattle.held_seats.specs.Floors.{AreBelow}
use Rattle.held_seats.proofs.Holding.{below_more}
use Rattle.certificate_checker.specs.Turns.{held_before}
use Rattle.certificate_checker.proofs.Reading.{denied}
use Rattle.certificate_checker.proofs.TurnReading.{IsTurnAt, IsTurnOf, fits, infeasible_turn, menu_priced, not_due, priced_turn, right_turn, taken_turn, told_choices, unaffordable_turn, who, wrong_turn_tree}
use Rattle.certificate_checker.proofs.Turning.{before_below, before_length}
use Rattle.certificate_checker.proofs.turns.check_turn.Goals as goal
use Rattle.certificate_checker.proofs.turns.check_turn.Goals.{After-as_slice-prices, After-index-turn}

-- the turn as it is read
at : (c : After-index-turn)
    → IsTurnAt c.args.terms.now c.args.publication.now c.args.place (map (λ student. student.0) c.args.order.now) c.args.progress c.index-turn.result.now
at c = record {
  can = c.requires.turn.can;
  low = c.requires.turn.low;
  printed = c.index-turn.ensures;
  order_is = c.requires.turn.order_is;
  so_far = c.requires.turn.so_far;
}

-- what its student may take, and for how much
of : (c : After-as_slice-prices)
    → IsTurnOf c.args.terms.now c.args.publication.now c.index-turn.result.now c.index-menu.result.now c.index.result.now c.raised-budget.result
    c.as_slice-prices.result.now
of c = record {
  menu = subst (λ n. c.index-menu.result.now ≡ get_or c.args.terms.now.crowd.menus.items n c.index-menu.result.now) c.from-student.ensures c.index-menu.ensures;
  budget = subst (λ n. c.index.result.now ≡ get_or c.args.terms.now.crowd.budgets.items n c.index.result.now) c.from-student.ensures c.index.ensures;
  more = c.raised-budget.ensures;
  prices_are = c.as_slice-prices.ensures.value;
}

pub is_due-requires : goal.is_due-requires
is_due-requires c =
    let passes = c.requires.turn.so_far.passes in
    let few = c.requires.turn.few in
    let place = c.requires.turn.low in
    omega arith

pub returns-then-not-is_due-clause-wrong : goal.returns-then-not-is_due-clause-wrong
returns-then-not-is_due-clause-wrong c =
    not_due _ _ _ _ _ _ (at (goal.at.returns-then-not-is_due-clause-wrong c).After-index-turn) (denied c.is_due.result c.is_due.ensures c.if-not-is_due.true)

pub index-menu-requires : goal.index-menu-requires
index-menu-requires c =
    let inside : c.index-turn.result.now.student.0 < length c.args.terms.now.crowd.menus.items =
    who _ _ _ _ _ _ (at (goal.at.index-menu-requires c).After-index-turn) in
    let same = c.from-student.ensures in
    omega arith

pub index-requires : goal.index-requires
index-requires c =
    let inside : c.index-turn.result.now.student.0 < length c.args.terms.now.crowd.menus.items =
    who _ _ _ _ _ _ (at (goal.at.index-requires c).After-index-turn) in
    let same = c.from-student.ensures in
    let drawn = c.args.terms.now.crowd.same in
    omega arith

pub raised-budget-requires-clause-budget : goal.raised-budget-requires-clause-budget
raised-budget-requires-clause-budget c =
    let inside : c.index-turn.result.now.student.0 < length c.args.terms.now.crowd.menus.items =
    who _ _ _ _ _ _ (at (goal.at.raised-budget-requires-clause-budget c).After-index-turn) in
    let same = c.from-student.ensures in
    let drawn = c.args.terms.now.crowd.same in
    subst (λ budget. budget.0 ≤ 1000000) (sym c.index.ensures) (budgets_high c.args.terms.now.crowd c.from-student.result c.index.result.now (omega arith))

pub is_affordable-requires : goal.is_affordable-requires
is_affordable-requires c =
    priced_turn _ _ _ _ _ _ (at (goal.at.is_affordable-requires c).After-index-turn) _ _ _ _ (of (goal.at.is_affordable-requires c).After-as_slice-prices)

pub returns-then-not-is_affordable-clause-wrong : goal.returns-then-not-is_affordable-clause-wrong
returns-then-not-is_affordable-clause-wrong c =
    unaffordable_turn _ _ _ _ _ _ (at (goal.at.returns-then-not-is_affordable-clause-wrong c).After-index-turn) _ _ _ _
    (of (goal.at.returns-then-not-is_affordable-clause-wrong c).After-as_slice-prices) (c.is_due.ensures.0 c.if-not-is_due.false)
    (denied c.is_affordable.result c.is_affordable.ensures c.if-not-is_affordable.true)

pub returns-then-not-feasible-clause-wrong : goal.returns-then-not-feasible-clause-wrong
returns-then-not-feasible-clause-wrong c =
    infeasible_turn _ _ _ _ _ _ (at (goal.at.returns-then-not-feasible-clause-wrong c).After-index-turn) _ _ _ _
    (of (goal.at.returns-then-not-feasible-clause-wrong c).After-as_slice-prices) (c.is_due.ensures.0 c.if-not-is_due.false)
    (c.is_affordable.ensures.0 c.if-not-is_affordable.false) (denied c.feasible.result c.feasible.ensures c.if-not-feasible.true)

pub choices-choices-requires-clause-place : goal.choices-choices-requires-clause-place
choices-choices-requires-clause-place c =
    let inside : c.index-turn.result.now.student.0 < length c.args.terms.now.crowd.menus.items =
    who _ _ _ _ _ _ (at (goal.at.choices-choices-requires-clause-place c).After-index-turn) in
    let same = c.from-student.ensures in
    let long = before_length c.args.terms.now c.args.publication.now c.args.place c.requires.turn.can in
    subst (λ held. c.from-student.result < length held) (sym c.requires.floor.held) (omega arith)

pub choices-choices-requires-clause-below : goal.choices-choices-requires-clause-below
choices-choices-requires-clause-below c =
    subst (AreBelow 400) (sym c.requires.floor.held)
    (below_more c.args.terms.now.crowd.sections 400 (held_before (publication_of c.args.publication.now) c.args.place) (few_sections c.args.terms.now.crowd)
    (before_below c.args.terms.now c.args.publication.now c.args.place c.requires.turn.can))

pub is_offered-requires : goal.is_offered-requires
is_offered-requires c =
    let few = few_sections c.args.terms.now.crowd in
    λ k d low. (let small = fits _ _ _ _ _ _ (at (goal.at.is_offered-requires c).After-index-turn) k d low in omega arith)

pub returns-then-not-is_offered-clause-wrong : goal.returns-then-not-is_offered-clause-wrong
returns-then-not-is_offered-clause-wrong c =
    taken_turn _ _ _ _ _ _ (at (goal.at.returns-then-not-is_offered-clause-wrong c).After-index-turn) _ _ _ _
    (of (goal.at.returns-then-not-is_offered-clause-wrong c).After-as_slice-prices) c.choices-choices.result
    (told_choices _ _ _ _ _ _ (c.choices-choices.ensures c.args.terms.now.seats.items c.requires.floor.is_floor) c.requires.floor.held c.from-student.ensures)
    (c.is_due.ensures.0 c.if-not-is_due.false) (c.is_affordable.ensures.0 c.if-not-is_affordable.false) (c.feasible.ensures.0 c.if-not-feasible.false)
    (denied c.is_offered.result c.is_offered.ensures c.if-not-is_offered.true)

pub check_tree-requires-clause-prices : goal.check_tree-requires-clause-prices
check_tree-requires-clause-prices c =
    menu_priced c.args.terms.now c.args.publication.now c.from-student.result c.index-menu.result.now c.as_slice-prices.result.now c.requires.turn.can
    (who _ _ _ _ _ _ (at (goal.at.check_tree-requires-clause-prices c).After-index-turn)) c.from-student.ensures c.index-menu.ensures
    c.as_slice-prices.ensures.value

pub check_tree-requires-clause-champion : goal.check_tree-requires-clause-champion
check_tree-requires-clause-champion c =
    record {
      feasible = (c.feasible.ensures.0 c.if-not-feasible.false);
      affordable = (c.is_affordable.ensures.0 c.if-not-is_affordable.false);
      within = (c.is_offered.ensures.0 c.if-not-is_offered.false);
    }

pub returns-in-Ok-clause-right : goal.returns-in-Ok-clause-right
returns-in-Ok-clause-right c =
    right_turn _ _ _ _ _ _ (at (goal.at.returns-in-Ok-clause-right c).After-index-turn) _ _ _ _
    (of (goal.at.returns-in-Ok-clause-right c).After-as_slice-prices) c.choices-choices.result
    (told_choices _ _ _ _ _ _ (c.choices-choices.ensures c.args.terms.now.seats.items c.requires.floor.is_floor) c.requires.floor.held c.from-student.ensures)
    c.deref.result.now c.deref.ensures.value (c.is_due.ensures.0 c.if-not-is_due.false) (c.is_affordable.ensures.0 c.if-not-is_affordable.false)
    (c.feasible.ensures.0 c.if-not-feasible.false) (c.is_offered.ensures.0 c.if-not-is_offered.false) (c.in-Ok.ensures.ok.0 refl).1

pub returns-in-Err-clause-wrong : goal.returns-in-Err-clause-wrong
returns-in-Err-clause-wrong c =
    wrong_turn_tree _ _ _ _ _ _ (at (goal.at.returns-in-Err-clause-wrong c).After-index-turn) _ _ _ _
    (of (goal.at.returns-in-Err-clause-wrong c).After-as_slice-prices) c.choices-choices.result
    (told_choices _ _ _ _ _ _ (c.choices-choices.ensures c.args.terms.now.seats.items c.requires.floor.is_floor) c.requires.floor.held c.from-student.ensures)
    c.deref.result.now c.in-Err.defect c.deref.ensures.value (c.is_due.ensures.0 c.if-not-is_due.false)
    (c.is_affordable.ensures.0 c.if-not-is_affordable.false) (c.feasible.ensures.0 c.if-not-feasible.false)
    (c.is_offered.ensures.0 c.if-not-is_offered.false) c.in-Err.ensures.defect
