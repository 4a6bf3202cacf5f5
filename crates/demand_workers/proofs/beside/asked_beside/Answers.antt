use Rattle.std.proofs.Common.{◌∙◌, refl, ap, subst}
use Rattle.std.specs.Arc.{arc_value}
use Rattle.std.specs.FinSet as set
use Rattle.market_units.specs.Totals.{total}
use Rattle.bundle_rules.specs.Bundles.{sections_of}
use Rattle.bundle_rules.specs.Demand.{price_in}
use Rattle.demand_api.proofs.Takers.{priced_at, found_demand}
use Rattle.demand_workers.specs.Remembered.{FellWithin}
use Rattle.demand_workers.proofs.LeadingOthers.{leads_demand, dearer_but}
use Rattle.demand_workers.proofs.Recalling.{places_low, taken_priced}
use Rattle.demand_workers.proofs.beside.asked_beside.Goals as goal

pub price_of-requires-clause-priced : goal.price_of-requires-clause-priced
price_of-requires-clause-priced c =
    let question = c.args.question.now in
    taken_priced (arc_value question.remembered.now.crowd) question.prices.now (price_in question.remembered.now.prices.items) question.student.0
    c.sections.result.now (sections_of c.earlier-first.result.now) question.priced c.sections.ensures.value c.earlier-first.ensures

pub demand_beside-requires-clause-prices : goal.demand_beside-requires-clause-prices
demand_beside-requires-clause-prices c =
    let question = c.args.question.now in
    priced_at (arc_value question.remembered.now.crowd) question.prices.now question.student.0 c.menu.result.now question.priced question.listed
    (c.menu.ensures c.menu.result.now)

pub demand_beside-requires-clause-first : goal.demand_beside-requires-clause-first
demand_beside-requires-clause-first c =
    let question = c.args.question.now in
    let crowd = arc_value question.remembered.now.crowd in
    let menu = c.menu.result.now in
    let before = question.remembered.now.prices.items in
    let within =
    subst (λ ps. FellWithin c.between-cheaper.result.first c.between-cheaper.result.past ps question.prices.now) c.deref.ensures.value
    c.between-cheaper.ensures in
    let below = places_low crowd crowd.sections question.student.0 menu refl question.listed (c.menu.ensures menu) in
    let cost = c.price_of.ensures.value ∙ ap (total (price_in question.prices.now)) c.sections.ensures.value in
    leads_demand crowd (price_in before) (price_in question.prices.now) question.student.0 menu c.budget-budget.result
    (set.contains question.remembered.now.allowed) c.in-Some.section.0 (sections_of c.earlier-first.result.now) question.listed (c.menu.ensures menu)
    (c.budget-budget.ensures c.budget-budget.result) question.remembered.now.every
    (dearer_but menu crowd.sections _ _ c.in-Some.section.0 before question.prices.now below question.remembered.now.priced.same question.priced.same within
    c.in-Some.ensures.0 c.in-Some.ensures.1)
    (rw (← cost) c.if-price_of-budget.false) c.earlier-first.ensures

pub returns : goal.returns
returns c =
    let question = c.args.question.now in
    found_demand (arc_value question.remembered.now.crowd) (price_in question.prices.now) question.student.0 c.menu.result.now c.budget-budget.result
    (set.contains question.remembered.now.allowed) (sections_of c.demand_beside.result) question.listed (c.menu.ensures c.menu.result.now)
    (c.budget-budget.ensures c.budget-budget.result) question.remembered.now.every c.demand_beside.ensures
