-- What students hold, as what they may take and afford with the raise.
use Rattle.std.specs.Prelude.{ℕ, ◌≡◌, ◌||◌, true, not, List, All, IsTrue, length, Option, Some, slice_get}
use Rattle.std.specs.Ordering.{nat_cmp}
use Rattle.std.specs.FinSet as set
use Rattle.bundle_rules.specs.declared.menu.Rated.{Rated}
use Rattle.bundle_rules.specs.Menus.{wishes_of}
use Rattle.bundle_rules.specs.Demand.{price_in, IsChoice, IsBest}
use Rattle.budget_draw.specs.Budgets.{raised_by}
use Rattle.demand_api.specs.Crowds.{Student}
use Rattle.held_seats.specs.declared.floor.Floor.{Floor}
use Rattle.held_seats.specs.Floors.{IsFloor, held_on}
use Rattle.aftermarket_stage.specs.Turns.{Terms}

-- a student and what it holds: a bundle that it may take and afford with the raise
pub record HoldsChoice (terms : Terms) (held : List (List ℕ)) (who : Student)
    (place : ℕ) : Type 0 where
  pub bundle : List ℕ
  pub there : slice_get held place ≡ Some bundle
  pub choice : IsChoice (wishes_of who.menu) (price_in terms.prices)
      (raised_by terms.raise who.budget) (λ s. true) bundle

-- each student holds a bundle that it may take and afford with the raise
pub record AreChoices (terms : Terms) (held : List (List ℕ)) : Type 0 where
  pub each : length held ≡ length terms.crowd.students
  pub choices : (place : ℕ) (who : Student) → slice_get terms.crowd.students place ≡ Some who
      → HoldsChoice terms held who place

-- where sections are known of a student, the bundle that it holds is the best of these within its
-- raised budget
abbrev pub AreKnown : Terms → List (List ℕ) → List (Option (set.FinSet nat_cmp)) → Type 0
AreKnown terms held known =
    (place : ℕ) (who : Student) (bundle : List ℕ) (sections : set.FinSet nat_cmp)
    → slice_get terms.crowd.students place ≡ Some who → slice_get held place ≡ Some bundle
    → slice_get known place ≡ Some (Some sections)
    → IsBest (wishes_of who.menu) (price_in terms.prices) (raised_by terms.raise who.budget)
    (set.contains sections) bundle

-- how the aftermarket stands: the floor counts what is held; each student holds a bundle that it may
-- take and afford with the raise; and that is the best one of the sections that are known of the
-- student, where some are
pub record Stands (terms : Terms) (floor : Floor)
    (known : List (Option (set.FinSet nat_cmp))) : Type 0 where
  pub counted : IsFloor terms.seats floor
  pub choices : AreChoices terms (held_on floor)
  pub size : length known ≡ length terms.crowd.students
  pub best : AreKnown terms (held_on floor) known

-- sections are known of a student, and those at these places that are allowed are among them
pub record IsSettled (known : List (Option (set.FinSet nat_cmp))) (place : ℕ) (places : List Rated)
    (allowed : set.FinSet nat_cmp) : Type 0 where
  pub sections : set.FinSet nat_cmp
  pub are_known : slice_get known place ≡ Some (Some sections)
  pub none_new : All
      (λ rated. IsTrue
      (set.contains sections rated.section.0 || not (set.contains allowed rated.section.0)))
      places
