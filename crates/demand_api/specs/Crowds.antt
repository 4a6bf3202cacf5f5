-- A crowd of students, and what it demands at given prices. A price is given for each section, by
-- its ordinal.
use Rattle.std.specs.Prelude.{ℕ, suc, ◌<◌, ◌≤◌, if◌then◌else◌, max, List, [], ◌∷◌, All, length, map, nat_lt, slice_index_or}
use Rattle.market_units.specs.declared.limits.TheConstants.{MAX_BUDGET, MAX_SECTIONS, MAX_STUDENTS}
use Rattle.market_units.specs.Totals.{total}
use Rattle.market_units.specs.Members.{has}
use Rattle.bundle_rules.specs.Menus.{MenuData}
use Rattle.bundle_rules.specs.Best.{best}
use Rattle.bundle_rules.specs.Places.{places_from}

-- a student's menu and budget
pub record Student : Type 0 where
  pub menu : MenuData
  pub budget : ℕ

-- the students in file order, and the number of sections
pub record CrowdData : Type 0 where
  pub students : List Student
  pub sections : ℕ

-- the sections of a menu are below this number
abbrev pub IsWithin : ℕ → MenuData → Type 0
IsWithin sections menu = All (λ rated. rated.section.0 < sections) menu.places

-- at most 2,000 students with budgets of at most 1,000,000, and at most 400 sections, among which
-- are those of the menus
pub record IsCrowd (crowd : CrowdData) : Type 0 where
  pub few : length crowd.students ≤ MAX_STUDENTS
  pub budgets : All (λ student. student.budget ≤ MAX_BUDGET) crowd.students
  pub sections : crowd.sections ≤ MAX_SECTIONS
  pub menus : All (λ student. IsWithin crowd.sections student.menu) crowd.students

-- the greatest budget, 0 without students
abbrev pub greatest_budget : List Student → ℕ
greatest_budget [] = 0
greatest_budget (student ∷ students) = max student.budget (greatest_budget students)

-- the top price: one more than the greatest budget
unfoldable pub top : CrowdData → ℕ
top crowd = suc (greatest_budget crowd.students)

-- what one student takes: the best bundle, with all sections allowed
abbrev pub demand : ℕ → (ℕ → ℕ) → Student → List ℕ
demand sections price student = best student.menu price student.budget (λ s. nat_lt s sections)

-- what each student takes, in file order
unfoldable pub demands : CrowdData → (ℕ → ℕ) → List (List ℕ)
demands crowd price = map (demand crowd.sections price) crowd.students

-- what the student of this number takes
abbrev pub demand_of : CrowdData → (ℕ → ℕ) → ℕ → List ℕ
demand_of crowd price student = slice_index_or (demands crowd price) student []

-- how many of these bundles have the section
abbrev pub holders : ℕ → List (List ℕ) → ℕ
holders s bundles = total (λ bundle. if has bundle s then 1 else 0) bundles

-- how many students take the section
abbrev pub count : CrowdData → (ℕ → ℕ) → ℕ → ℕ
count crowd price s = holders s (demands crowd price)

-- the count of each section
abbrev pub counts : CrowdData → (ℕ → ℕ) → List ℕ
counts crowd price = map (count crowd price) (places_from 0 crowd.sections)
