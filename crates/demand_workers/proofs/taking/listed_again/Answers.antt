use Rattle.std.proofs.Common.{◌≡◌, ◌∙◌, sym, subst}
use Rattle.std.specs.Arc.{arc_value}
use Rattle.std.specs.FinSet as set
use Rattle.market_units.specs.declared.units.Tokens.{Tokens}
use Rattle.bundle_rules.specs.Demand.{price_in}
use Rattle.bundle_rules.specs.Menus.{MenuData, wishes_of}
use Rattle.demand_api.proofs.Takers.{priced_at}
use Rattle.demand_oracle.specs.Bests.{AreBest}
use Rattle.demand_oracle.specs.BestViews.{bundles_of}
use Rattle.demand_workers.proofs.taking.listed_again.Goals as goal

pub best_few-requires-clause-prices : goal.best_few-requires-clause-prices
best_few-requires-clause-prices c =
    let question = c.args.question.now in
    priced_at (arc_value question.remembered.now.crowd) question.prices.now question.student.0 c.menu.result.now question.priced question.listed
    (c.menu.ensures c.menu.result.now)

pub returns : goal.returns
returns c menu budget menu_is budget_is =
    let question = c.args.question.now in
    let same : menu ≡ c.menu.result.now = menu_is ∙ sym (c.menu.ensures menu) in
    let paid : budget ≡ c.budget.result = budget_is ∙ sym (c.budget.ensures budget) in
    subst (λ (m : MenuData). AreBest (wishes_of m) (price_in question.prices.now) budget.0 (set.contains question.remembered.now.allowed) (bundles_of c.best_few.result))
    (sym same)
    (subst (λ (b : Tokens). AreBest (wishes_of c.menu.result.now) (price_in question.prices.now) b.0 (set.contains question.remembered.now.allowed) (bundles_of c.best_few.result))
    (sym paid) c.best_few.ensures)
