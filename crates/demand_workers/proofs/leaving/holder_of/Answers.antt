use Rattle.std.proofs.Common.{◌∙◌, ap, arith}
use Rattle.std.specs.Arc.{arc_value}
use Rattle.market_units.specs.Totals.{total}
use Rattle.bundle_rules.specs.Bundles.{sections_of}
use Rattle.bundle_rules.specs.Demand.{price_in}
use Rattle.demand_workers.specs.Views.{crowd_of}
use Rattle.demand_workers.proofs.HoldersLeave.{HolderTold, holder_told}
use Rattle.demand_workers.proofs.Recalling.{taken_priced}
use Rattle.demand_workers.proofs.leaving.holder_of.Goals as goal
use Rattle.demand_workers.proofs.leaving.holder_of.Goals.{After-budget}

pub price_of-cost-requires-clause-priced : goal.price_of-cost-requires-clause-priced
price_of-cost-requires-clause-priced c =
    let question = c.args.question.now in
    taken_priced (arc_value question.remembered.now.crowd) question.prices.now (price_in question.prices.now) question.student.0 c.sections.result.now
    (sections_of c.args.bundle.now) question.priced c.sections.ensures.value c.requires.taken

-- what is known of the holder
told : (c : After-budget)
    → HolderTold (crowd_of c.args.question.now.remembered.now) c.args.question.now.prices.now c.args.section.0 c.args.question.now.student.0 c.from.result
    c.price_of-cost.result c.budget.result.0
told c =
    let question = c.args.question.now in
    holder_told (arc_value question.remembered.now.crowd) question.prices.now c.args.section.0 question.student.0 c.from.result c.price_of-cost.result
    c.budget.result (sections_of c.args.bundle.now) question.priced c.requires.section question.listed (c.budget.ensures c.budget.result) c.requires.taken
    c.requires.holds c.sections.ensures.bundle.ascending
    (c.price_of-cost.ensures.value ∙ ap (total (price_in question.prices.now)) c.sections.ensures.value) c.from.ensures

pub overflow_sub-left : goal.overflow_sub-left
overflow_sub-left c = (told (goal.at.overflow_sub-left c).After-budget).paid

pub overflow_add-result : goal.overflow_add-result
overflow_add-result c = let holder = told (goal.at.overflow_add-result c).After-budget in omega arith

pub overflow_add-result-2 : goal.overflow_add-result-2
overflow_add-result-2 c = let holder = told (goal.at.overflow_add-result-2 c).After-budget in omega arith

pub overflow_sub-result : goal.overflow_sub-result
overflow_sub-result c = let holder = told (goal.at.overflow_sub-result c).After-budget in omega arith

pub returns-clause-later : goal.returns-clause-later
returns-clause-later c = let holder = told (goal.at.returns-clause-later c).After-budget in omega arith

pub returns-clause-capped : goal.returns-clause-capped
returns-clause-capped c = let holder = told (goal.at.returns-clause-capped c).After-budget in omega arith

pub returns-clause-still : goal.returns-clause-still
returns-clause-still c = (told (goal.at.returns-clause-still c).After-budget).still
