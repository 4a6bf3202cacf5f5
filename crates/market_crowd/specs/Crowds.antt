-- The crowd of a market.
use Rattle.std.specs.Prelude.{ℕ, ◌≡◌, List, length, map}
use Rattle.budget_draw.specs.Budgets.{budgets_of}
use Rattle.course_catalog.specs.Sections.{Section}
use Rattle.demand_api.specs.Crowds.{CrowdData}
use Rattle.market_menus.specs.MenusOf.{AreMenusOf}
use Rattle.preference_desk.specs.StudentPreferences.{StudentPreferences}
use Rattle.student_roll.specs.Students.{Student}

-- The students of a roll, who want this, as a crowd: in file order the menu of each and the budget
-- that the seed draws for it; and as many sections as the catalogue has.
pub record IsCrowdOf (catalog : List Section) (roll : List Student)
    (wanted : List StudentPreferences) (seed spread : ℕ) (crowd : CrowdData) : Type 0 where
  pub menus : AreMenusOf catalog roll wanted (map (λ student. student.menu) crowd.students)
  pub budgets : map (λ student. student.budget) crowd.students ≡ budgets_of roll seed spread
  pub sections : crowd.sections ≡ length catalog
