use Rattle.std.proofs.Common.{◌≡◌, ◌∙◌, List, length, ap, sym, subst}
use Rattle.std.specs.Arc.{arc_value}
use Rattle.market_units.specs.declared.units.Tokens.{Tokens}
use Rattle.market_units.specs.Totals.{total}
use Rattle.bundle_rules.specs.declared.menu.Rated.{Rated}
use Rattle.bundle_rules.specs.Bundles.{sections_of}
use Rattle.bundle_rules.specs.Demand.{price_in}
use Rattle.demand_workers.specs.Remembered.{NoneIsCheaper}
use Rattle.demand_workers.proofs.Recalling.{kept_demand, on_menu, taken_priced}
use Rattle.demand_workers.proofs.question.Question.stays.Goals as goal

pub price_of-requires-clause-priced : goal.price_of-requires-clause-priced
price_of-requires-clause-priced c =
    let question = c.args.self.now in
    taken_priced (arc_value question.remembered.now.crowd) question.prices.now (price_in question.remembered.now.prices.items) question.student.0
    c.sections.result.now (sections_of c.earlier.result.now) question.priced c.sections.ensures.value c.earlier.ensures

pub spares-requires-clause-before : goal.spares-requires-clause-before
spares-requires-clause-before c =
    let question = c.args.self.now in
    on_menu (arc_value question.remembered.now.crowd) question.student.0 (length c.deref.result.now) c.menu.result.now c.places.result.now question.listed
    (c.menu.ensures c.menu.result.now) c.places.ensures.value (ap length c.deref.ensures.value ∙ question.remembered.now.priced.same)

pub spares-requires-clause-after : goal.spares-requires-clause-after
spares-requires-clause-after c =
    let question = c.args.self.now in
    on_menu (arc_value question.remembered.now.crowd) question.student.0 (length question.prices.now) c.menu.result.now c.places.result.now question.listed
    (c.menu.ensures c.menu.result.now) c.places.ensures.value question.priced.same

pub returns : goal.returns
returns c holds =
    let question = c.args.self.now in
    let seen : NoneIsCheaper c.places.result.now c.deref.result.now question.prices.now = c.spares.ensures holds in
    let none : NoneIsCheaper c.menu.result.now.places question.remembered.now.prices.items question.prices.now =
    subst (λ (ps : List Tokens). NoneIsCheaper c.menu.result.now.places ps question.prices.now) c.deref.ensures.value
    (subst (λ (rs : List Rated). NoneIsCheaper rs c.deref.result.now question.prices.now) c.places.ensures.value seen) in
    let cost : c.price_of.result ≡ total (price_in question.prices.now) (sections_of c.earlier.result.now) =
    c.price_of.ensures.value ∙ ap (total (price_in question.prices.now)) c.sections.ensures.value in
    let paid = c.if-price_of-budget.false in
    sym c.earlier.ensures
    ∙ kept_demand (arc_value question.remembered.now.crowd) (price_in question.remembered.now.prices.items) (price_in question.prices.now)
    question.student.0 c.menu.result.now c.budget.result (sections_of c.earlier.result.now) question.listed (c.menu.ensures c.menu.result.now)
    (c.budget.ensures c.budget.result) none (rw (← cost) paid) c.earlier.ensures
