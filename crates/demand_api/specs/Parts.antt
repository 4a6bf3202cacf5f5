-- A crowd of given menus and budgets.
use Rattle.std.specs.Prelude.{ℕ, List, [], ◌∷◌, max}
use Rattle.market_units.specs.declared.units.Tokens.{Tokens}
use Rattle.bundle_rules.specs.Menus.{MenuData}
use Rattle.demand_api.specs.Crowds.{Student, CrowdData}

-- each menu with its budget
abbrev pub students_of : List MenuData → List Tokens → List Student
students_of [] budgets = []
students_of (menu ∷ menus) [] = []
students_of (menu ∷ menus) (budget ∷ budgets) =
    record { menu = menu; budget = budget.0 } ∷ students_of menus budgets

-- the crowd of these menus and budgets
abbrev pub of_parts : List MenuData → List Tokens → ℕ → CrowdData
of_parts menus budgets sections =
    record { students = students_of menus budgets; sections = sections }

-- the greatest of these budgets, 0 where there is none
abbrev pub greatest : List Tokens → ℕ
greatest [] = 0
greatest (budget ∷ budgets) = max budget.0 (greatest budgets)
