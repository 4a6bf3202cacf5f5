use Rattle.std.proofs.Common.{◌≡◌, ◌<◌, ◌≤◌, ◌∙◌, length, ap, subst, sym, arith}
use Rattle.demand_api.proofs.Parts.{budgets_high}
use Rattle.demand_api.proofs.Takers.{priced_at}
use Rattle.demand_api.specs.Views.{data_of}
use Rattle.aftermarket_stage.specs.After.{turn_of}
use Rattle.aftermarket_stage.specs.Turns.{TurnData}
use Rattle.published_market.specs.Turns.{best_of, offer_for}
use Rattle.published_market.proofs.Rooming.{chosen_at, offer_turned, turn_best, turn_inside}
use Rattle.published_market.proofs.turns.ChosenBestBundles.best.Goals as goal

pub index-menu-requires : goal.index-menu-requires
index-menu-requires c =
    let inside : c.from-student.result < length c.args.self.now.crowd.now.menus.items =
    turn_inside c.args.self.now c.args.place c.from-student.result c.index-turns-place.result c.requires c.index-turns-place.is c.from-student.ensures in
    omega arith

pub index-requires : goal.index-requires
index-requires c =
    let crowd = c.args.self.now.crowd.now in
    let inside : c.from-student.result < length crowd.menus.items =
    turn_inside c.args.self.now c.args.place c.from-student.result c.index-turns-place.result c.requires c.index-turns-place.is c.from-student.ensures in
    let same : length crowd.budgets.items ≡ length crowd.menus.items = crowd.same in
    omega arith

pub raised-budget-requires-clause-budget : goal.raised-budget-requires-clause-budget
raised-budget-requires-clause-budget c =
    let crowd = c.args.self.now.crowd.now in
    let inside : c.from-student.result < length crowd.menus.items =
    turn_inside c.args.self.now c.args.place c.from-student.result c.index-turns-place.result c.requires c.index-turns-place.is c.from-student.ensures in
    let same : length crowd.budgets.items ≡ length crowd.menus.items = crowd.same in
    let low : c.from-student.result < length crowd.budgets.items = omega arith in
    subst (λ budget. budget.0 ≤ 1000000) (sym c.index.ensures) (budgets_high crowd c.from-student.result c.index.result.now low)

pub invariant_of-result : goal.invariant_of-result
invariant_of-result c =
    let chosen = c.args.self.now in
    let turn = c.index-turns-place.result in
    let inside = turn_inside chosen c.args.place c.from-student.result turn c.requires c.index-turns-place.is c.from-student.ensures in
    let made = turn_best chosen c.args.place turn c.requires c.index-turns-place.is in
    let offer =
    offer_turned chosen c.from-student.result (turn_of turn) c.index-menu.result.now c.index.result.now c.raised-budget.result.0 c.from-student.ensures inside
    c.index-menu.ensures c.index.ensures c.raised-budget.ensures in
    record {
      priced = priced_at chosen.crowd.now chosen.prices.now c.from-student.result c.index-menu.result.now chosen.priced inside c.index-menu.ensures;
      best = made.best ∙ ap best_of (sym offer);
    }

pub returns-clause-offer : goal.returns-clause-offer
returns-clause-offer c =
    let chosen = c.args.self.now in
    let turn = c.index-turns-place.result in
    let inside = turn_inside chosen c.args.place c.from-student.result turn c.requires c.index-turns-place.is c.from-student.ensures in
    offer_turned chosen c.from-student.result (turn_of turn) c.index-menu.result.now c.index.result.now c.raised-budget.result.0 c.from-student.ensures inside
    c.index-menu.ensures c.index.ensures c.raised-budget.ensures
    ∙ ap (offer_for (data_of chosen.crowd.now) chosen.prices.now chosen.raise) (sym (chosen_at chosen c.args.place turn c.requires c.index-turns-place.is))

pub returns-clause-bundle : goal.returns-clause-bundle
returns-clause-bundle c =
    ap (λ (turn : TurnData). turn.bundle) (sym (chosen_at c.args.self.now c.args.place c.index-turns-place.result c.requires c.index-turns-place.is))
