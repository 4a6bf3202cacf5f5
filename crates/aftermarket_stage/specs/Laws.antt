-- The laws of the aftermarket.
use Rattle.std.specs.Prelude.{ℕ, ◌≡◌, ◌⊎◌, List, ◌∷◌, ◌++◌, Some, slice_get}
use Rattle.bundle_rules.specs.Menus.{wishes_of}
use Rattle.bundle_rules.specs.Preferences.{IsPreferred}
use Rattle.bundle_rules.specs.Demand.{price_in}
use Rattle.demand_api.specs.Crowds.{Student, IsCrowd, demands}
use Rattle.aftermarket_stage.specs.Turns.{Terms, TurnData, after_turns, IsQuiet}
use Rattle.held_seats.specs.Choices.{AreHeldWithin}
use Rattle.aftermarket_stage.specs.Passes.{IsAftermarket}

-- what each student takes at the prices, before any raise: where the aftermarket starts
abbrev pub start_of : Terms → List (List ℕ)
start_of terms = demands terms.crowd (price_in terms.prices)

-- the student of the turn prefers its bundle to the one that it held
pub record IsImproved (terms : Terms) (held : List (List ℕ)) (turn : TurnData) : Type 0 where
  pub who : Student
  pub listed : slice_get terms.crowd.students turn.student ≡ Some who
  pub before : List ℕ
  pub had : slice_get held turn.student ≡ Some before
  pub preferred : IsPreferred (wishes_of who.menu) turn.bundle before

-- a turn changes nothing, or it is to a preferred bundle
abbrev pub ChangesArePreferred : Type 0
ChangesArePreferred =
    (terms : Terms) (turns : List TurnData) (passes : ℕ)
    → IsAftermarket terms (start_of terms) turns passes
    → (front later : List TurnData) (turn : TurnData) → turns ≡ front ++ turn ∷ later
    → IsQuiet (after_turns (start_of terms) front) turn
    ⊎ IsImproved terms (after_turns (start_of terms) front) turn

-- so the aftermarket ends
abbrev pub AftermarketEnds : Type 0
AftermarketEnds =
    (terms : Terms) → IsCrowd terms.crowd
    → (turns : List TurnData) × (passes : ℕ) × IsAftermarket terms (start_of terms) turns passes

-- from one start there is one aftermarket alone, with one number of passes
abbrev pub OneAftermarket : Type 0
OneAftermarket =
    (terms : Terms) (start : List (List ℕ)) (one other : List TurnData) (m n : ℕ)
    → IsAftermarket terms start one m → IsAftermarket terms start other n → (one ≡ other) × (m ≡ n)

-- no section exceeds its seats after any turn
abbrev pub StaysWithinSeats : Type 0
StaysWithinSeats =
    (terms : Terms) (start : List (List ℕ)) (turns : List TurnData) (passes : ℕ)
    → AreHeldWithin terms.crowd.sections terms.seats start → IsAftermarket terms start turns passes
    → (front later : List TurnData) → turns ≡ front ++ later
    → AreHeldWithin terms.crowd.sections terms.seats (after_turns start front)
