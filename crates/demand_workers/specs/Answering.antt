-- What the student of a question takes, at its prices and at the remembered ones.
use Rattle.std.specs.Prelude.{ℕ, ◌≡◌, List, slice_index_or}
use Rattle.std.specs.Arc.{arc_value}
use Rattle.std.specs.FinSet as set
use Rattle.market_units.specs.declared.units.Tokens.{Tokens}
use Rattle.bundle_rules.specs.Demand.{price_in}
use Rattle.bundle_rules.specs.Menus.{MenuData, wishes_of}
use Rattle.demand_api.specs.Crowds.{demand_of}
use Rattle.demand_oracle.specs.declared.best.Best.{Best}
use Rattle.demand_oracle.specs.Bests.{AreBest}
use Rattle.demand_oracle.specs.BestViews.{bundles_of}
use Rattle.demand_workers.specs.declared.question.Question.{Question}
use Rattle.demand_workers.specs.Views.{crowd_of, price_before}

-- what the student takes at the prices of the question
abbrev pub answer_to : Question → List ℕ
answer_to question =
    demand_of (crowd_of question.remembered.now) (price_in question.prices.now) question.student.0

-- what the student takes at the remembered prices
abbrev pub taken_before : Question → List ℕ
taken_before question =
    demand_of (crowd_of question.remembered.now) (price_before question.remembered.now)
    question.student.0

-- these are the student's best bundles at the prices of the question, of all sections
abbrev pub IsListed : Question → Best → Type 0
IsListed question best =
    (menu : MenuData) (budget : Tokens)
    → menu ≡ slice_index_or (arc_value question.remembered.now.crowd).menus.items question.student.0 menu
    → budget ≡ slice_index_or (arc_value question.remembered.now.crowd).budgets.items question.student.0 budget
    → AreBest (wishes_of menu) (price_in question.prices.now) budget.0
    (set.contains question.remembered.now.allowed) (bundles_of best)
