-- The crowd that menus and drawn budgets make.
use Rattle.std.proofs.Common.{ℕ, ◌≡◌, ◌<◌, ◌≤◌, ◌∙◌, List, [], ◌∷◌, length, map, refl, ap, sym, subst, arith}
use Rattle.std.specs.Prelude.{All}
use Rattle.std.specs.FinMap.{entries}
use Rattle.std.proofs.lemmas.List.{length-map}
use Rattle.std.proofs.lemmas.List.Elements.{All-cons, All-head, All-map, All-nil, All-tail}
use Rattle.budget_draw.specs.Budgets.{amounts, budgets_of}
use Rattle.bundle_rules.specs.Menus.{MenuData}
use Rattle.bundle_rules.specs.declared.menu.Rated.{Rated}
use Rattle.course_catalog.specs.Catalog.{CatalogData, IsCatalog}
use Rattle.course_catalog.specs.Sections.{Section}
use Rattle.demand_api.specs.Crowds.{CrowdData, IsCrowd, IsWithin, Student as CrowdStudent}
use Rattle.demand_api.specs.Parts.{of_parts, students_of}
use Rattle.demand_api.proofs.Parts.{parts_whole}
use Rattle.market_menus.specs.MenusOf.{AreMenusOf, IsMenuOf, rated_of}
use Rattle.market_units.specs.declared.units.Tokens.{Tokens}
use Rattle.preference_desk.specs.DeskNames.{DeskNames}
use Rattle.preference_desk.specs.MarketNames.{market_names}
use Rattle.preference_desk.specs.StudentPreferences.{SectionsBelow, StudentPreferences}
use Rattle.student_roll.specs.Students.{IsRoll, RollData, Student}
use Rattle.market_crowd.specs.Crowds.{IsCrowdOf}
use Rattle.budget_draw.proofs.BudgetFacts.{length-budgets_of}

-- as many menus as students
pub menus_length : (catalog : List Section) (students : List Student) (wanted : List StudentPreferences) (menus : List MenuData)
    → AreMenusOf catalog students wanted menus → length menus ≡ length students
menus_length catalog [] [] [] are = refl
menus_length catalog (s ∷ students) (w ∷ wanted) (m ∷ menus) are = omega (arith, menus_length catalog students wanted menus are.1)
menus_length catalog [] [] (m ∷ menus) are = absurd are
menus_length catalog [] (w ∷ wanted) menus are = absurd are
menus_length catalog (s ∷ students) [] menus are = absurd are
menus_length catalog (s ∷ students) (w ∷ wanted) [] are = absurd are

-- a menu has sections of the catalogue
menu_within : (catalog : List Section) (student : Student) (wanted : StudentPreferences) (menu : MenuData) → IsMenuOf catalog student wanted menu
    → SectionsBelow (length catalog) wanted → IsWithin (length catalog) menu
menu_within catalog student wanted menu is below =
    subst (λ (places : List Rated). All (λ (rated : Rated). rated.section.0 < length catalog) places) (sym is.places)
    (All-map (λ (rated : Rated). rated.section.0 < length catalog) (rated_of catalog) (entries wanted.ratings) below.rated)

-- so has each menu
menus_within : (catalog : List Section) (students : List Student) (wanted : List StudentPreferences) (menus : List MenuData)
    → AreMenusOf catalog students wanted menus → All (SectionsBelow (length catalog)) wanted
    → All (IsWithin (length catalog)) menus
menus_within catalog [] [] [] are below = All-nil (IsWithin (length catalog))
menus_within catalog (s ∷ students) (w ∷ wanted) (m ∷ menus) are below =
    All-cons (IsWithin (length catalog)) m menus (menu_within catalog s w m are.0 (All-head (SectionsBelow (length catalog)) w wanted below))
    (menus_within catalog students wanted menus are.1 (All-tail (SectionsBelow (length catalog)) w wanted below))
menus_within catalog [] [] (m ∷ menus) are below = absurd are
menus_within catalog [] (w ∷ wanted) menus are below = absurd are
menus_within catalog (s ∷ students) [] menus are below = absurd are
menus_within catalog (s ∷ students) (w ∷ wanted) [] are below = absurd are

-- the menus of a crowd
menus_of_crowd : (menus : List MenuData) (budgets : List Tokens) → length budgets ≡ length menus
    → map (λ (student : CrowdStudent). student.menu) (students_of menus budgets) ≡ menus
menus_of_crowd [] budgets same = refl
menus_of_crowd (m ∷ menus) [] same = absurd (omega arith)
menus_of_crowd (m ∷ menus) (b ∷ budgets) same = ap (λ rest. m ∷ rest) (menus_of_crowd menus budgets (omega arith))

-- and its budgets
pub budgets_of_crowd : (menus : List MenuData) (budgets : List Tokens) → length budgets ≡ length menus
    → map (λ (student : CrowdStudent). student.budget) (students_of menus budgets) ≡ amounts budgets
budgets_of_crowd [] [] same = refl
budgets_of_crowd [] (b ∷ budgets) same = absurd (omega arith)
budgets_of_crowd (m ∷ menus) [] same = absurd (omega arith)
budgets_of_crowd (m ∷ menus) (b ∷ budgets) same = ap (λ rest. b.0 ∷ rest) (budgets_of_crowd menus budgets (omega arith))

-- the menus and budgets of a market
module _ (catalog : CatalogData) (roll : RollData) (wanted : List StudentPreferences) (menus : List MenuData) (budgets : List Tokens) (seed spread : ℕ)
    (are : AreMenusOf catalog.sections roll.students wanted menus) (drawn : amounts budgets ≡ budgets_of roll.students seed spread) where
  -- a budget for each menu
  pub same : length budgets ≡ length menus
  same =
      let mapped : length (amounts budgets) ≡ length budgets = length-map budgets (λ (one : Tokens). one.0) in
      let all : length (amounts budgets) ≡ length (budgets_of roll.students seed spread) = ap length drawn in
      let each : length (budgets_of roll.students seed spread) ≡ length roll.students = length-budgets_of roll.students seed spread in
      omega (arith, menus_length catalog.sections roll.students wanted menus are)

  -- they make a crowd
  pub crowd_is_whole : IsCatalog catalog → IsRoll roll → All (SectionsBelow (length catalog.sections)) wanted
      → All (λ (budget : Tokens). budget.0 ≤ 997951) budgets → IsCrowd (of_parts menus budgets (length catalog.sections))
  crowd_is_whole listed enrolled below high =
      parts_whole menus budgets (length catalog.sections) same (omega (arith, enrolled.few, menus_length catalog.sections roll.students wanted menus are))
      (λ k d inside. omega (arith, high k d inside)) listed.few (menus_within catalog.sections roll.students wanted menus are below)

  -- which is that of the market
  pub crowd_is_markets : IsCrowdOf catalog.sections roll.students wanted seed spread (of_parts menus budgets (length catalog.sections))
  crowd_is_markets = record {
    menus = subst (AreMenusOf catalog.sections roll.students wanted) (sym (menus_of_crowd menus budgets same)) are;
    budgets = budgets_of_crowd menus budgets same ∙ drawn;
    sections = refl;
  }

-- a market's crowd has as many students as the roll
pub crowd_length : (catalog : List Section) (roll : List Student) (wanted : List StudentPreferences) (seed spread : ℕ) (crowd : CrowdData)
    → IsCrowdOf catalog roll wanted seed spread crowd → length crowd.students ≡ length roll
crowd_length catalog roll wanted seed spread crowd is =
    sym (length-map crowd.students (λ (student : CrowdStudent). student.menu))
    ∙ menus_length catalog roll wanted (map (λ (student : CrowdStudent). student.menu) crowd.students) is.menus

-- the sections of preferences are those of the catalogue whose names a desk knows
pub sections_known : (names : DeskNames) (catalog : List Section) (roll : List Student) (wanted : List StudentPreferences) → names ≡ market_names catalog roll
    → All (SectionsBelow (length names.sections)) wanted
    → All (SectionsBelow (length catalog)) wanted
sections_known names catalog roll wanted same below =
    let long : length names.sections ≡ length catalog =
    ap (λ (all : DeskNames). length all.sections) same ∙ length-map catalog (λ (section : Section). section.name) in
    subst (λ (n : ℕ). All (SectionsBelow n) wanted) long below
