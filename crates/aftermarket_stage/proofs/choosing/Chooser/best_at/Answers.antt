use Rattle.std.proofs.Common.{◌<◌, ◌≤◌, length, map, All, arith, refl, rules}
use Rattle.std.specs.FinSet as set
use Rattle.bundle_rules.specs.Bundles.{sections_of}
use Rattle.market_units.specs.declared.units.Tokens.{Tokens}
use Rattle.demand_api.proofs.Parts.{budgets_high}
use Rattle.aftermarket_stage.specs.After.{terms_in}
use Rattle.held_seats.proofs.Holding.{there_at}
use Rattle.aftermarket_stage.proofs.Crowding.{best_found, menu_priced}
use Rattle.aftermarket_stage.proofs.Knowing.{known_asked, known_kept, settled_best}
use Rattle.aftermarket_stage.proofs.choosing.Chooser.best_at.Goals as goal

pub returns-then-is_settled-clause-best : goal.returns-then-is_settled-clause-best
returns-then-is_settled-clause-best c =
    let low : c.args.place < length c.args.held.now = omega (arith, c.requires.place, c.requires.students) in
    settled_best c.args.terms.now.crowd.now c.args.terms.now.seats.now c.args.terms.now.prices.now c.args.terms.now.raise c.args.place
    (map sections_of c.args.held.now) c.args.self.now.known.items
    c.index-menu.result.now c.index-menu.result.now.places c.args.allowed.now (sections_of c.index-held-place.result)
    c.requires.place c.index-menu.ensures refl
    (there_at c.args.held.now c.args.place c.index-held-place.result low c.index-held-place.is) c.requires.held c.requires.known
    (c.is_settled.ensures c.if-is_settled.true)

pub returns-then-is_settled-clause-known : goal.returns-then-is_settled-clause-known
returns-then-is_settled-clause-known c =
    let low : c.args.place < length c.args.held.now = omega (arith, c.requires.place, c.requires.students) in
    known_kept (terms_in c.args.terms.now) c.args.place
    (map sections_of c.args.held.now) c.args.self.now.known.items (sections_of c.index-held-place.result) c.requires.known
    (there_at c.args.held.now c.args.place c.index-held-place.result low c.index-held-place.is)

pub raised-budget-requires-clause-budget : goal.raised-budget-requires-clause-budget
raised-budget-requires-clause-budget c =
    let high : All (λ (budget : Tokens). budget.0 ≤ 1000000) c.args.terms.now.crowd.now.budgets.items = budgets_high c.args.terms.now.crowd.now in
    search rules

pub demand_from-bundle-requires : goal.demand_from-bundle-requires
demand_from-bundle-requires c =
    menu_priced c.args.terms.now.crowd.now c.args.terms.now.prices.now c.args.place c.index-menu.result.now
    c.args.terms.now.priced c.requires.place c.index-menu.ensures

pub returns-clause-best : goal.returns-clause-best
returns-clause-best c =
    best_found c.args.terms.now.crowd.now c.args.terms.now.seats.now c.args.terms.now.prices.now c.args.terms.now.raise c.args.place
    c.raised-budget.result.0 c.index-menu.result.now c.index.result.now
    (set.contains c.args.allowed.now) (sections_of c.demand_from-bundle.result)
    c.requires.place c.index-menu.ensures c.index.ensures c.raised-budget.ensures c.demand_from-bundle.ensures

pub returns-clause-known : goal.returns-clause-known
returns-clause-known c =
    let found =
    best_found c.args.terms.now.crowd.now c.args.terms.now.seats.now c.args.terms.now.prices.now c.args.terms.now.raise c.args.place
    c.raised-budget.result.0 c.index-menu.result.now c.index.result.now
    (set.contains c.args.allowed.now) (sections_of c.demand_from-bundle.result)
    c.requires.place c.index-menu.ensures c.index.ensures c.raised-budget.ensures c.demand_from-bundle.ensures in
    known_asked (terms_in c.args.terms.now) c.args.place
    (map sections_of c.args.held.now) c.args.self.now.known.items found.who c.args.allowed.now (sections_of c.demand_from-bundle.result) c.requires.known
    found.listed found.best
