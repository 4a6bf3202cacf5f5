-- Turns of the stage as they are made.
use Rattle.std.specs.Prelude.{ℕ, ◌≡◌, Bool, true, false, List, [], ◌∷◌, ◌++◌, map, Some, slice_get}
use Rattle.bundle_rules.specs.Menus.{wishes_of}
use Rattle.bundle_rules.specs.Demand.{price_in, IsBest}
use Rattle.budget_draw.specs.Budgets.{raised_by}
use Rattle.demand_api.specs.Crowds.{Student}
use Rattle.aftermarket_stage.specs.declared.turns.Turn.{Turn}
use Rattle.aftermarket_stage.specs.Turns.{Terms, IsTurn, after_turn, after_turns, EachTurn, IsQuiet}
use Rattle.aftermarket_stage.specs.Passes.{due_of}
use Rattle.aftermarket_stage.specs.After.{turn_of, turns_of}

-- the bundle is the best that the student at this place may take of these sections with the raise
pub record IsBestAt (terms : Terms) (place : ℕ) (allowed : ℕ → Bool)
    (bundle : List ℕ) : Type 0 where
  pub who : Student
  pub listed : slice_get terms.crowd.students place ≡ Some who
  pub best : IsBest (wishes_of who.menu) (price_in terms.prices) (raised_by terms.raise who.budget)
      allowed bundle

-- one turn more was made, and what is held is what is held after it
pub record HasTurned (terms : Terms) (pass student : ℕ) (held later : List (List ℕ))
    (before after : List Turn) (changed : Bool) : Type 0 where
  pub turn : Turn
  pub made : after ≡ before ++ turn ∷ []
  pub number : turn.pass ≡ pass
  pub whose : turn.student.0 ≡ student
  pub is : IsTurn terms held (turn_of turn)
  pub holds : later ≡ after_turn held (turn_of turn)
  pub quiet : changed ≡ false → IsQuiet held (turn_of turn)
  pub moved : changed ≡ true → ¬ IsQuiet held (turn_of turn)

-- the pass and the student of each turn of these students in a pass
abbrev pub due_of_pass : ℕ → List ℕ → List (ℕ × ℕ)
due_of_pass pass students = map (λ student. (pass, student)) students

-- turns were made for these students, in their order, and what is held is what is held after them
pub record HaveTurned (terms : Terms) (pass : ℕ) (students : List ℕ) (held later : List (List ℕ))
    (before after : List Turn) (changed : Bool) : Type 0 where
  pub turns : List Turn
  pub made : after ≡ before ++ turns
  pub due : map due_of (turns_of turns) ≡ due_of_pass pass students
  pub each : EachTurn (IsTurn terms) held (turns_of turns)
  pub holds : later ≡ after_turns held (turns_of turns)
  pub quiet : changed ≡ false → EachTurn IsQuiet held (turns_of turns)
  pub moved : changed ≡ true → ¬ EachTurn IsQuiet held (turns_of turns)
