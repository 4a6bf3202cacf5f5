-- A history: a list of steps on one object, which opens in a state. Of the object these are given:
-- which requests are sound, and the state after a step and its reply, by base, state, seat and
-- request.
use Rattle.std.specs.Prelude.{◌≡◌, ℕ, Bool, true, List, [], ◌∷◌, ◌++◌, ⊤}
use Rattle.market_units.specs.Merges.{part_of}
use Rattle.chronicle.specs.declared.journal.StepOf.{StepOf}

module _ {B S Q A : Type 0} where
  -- the state after these steps
  abbrev pub state_after : (B → S → ℕ → Q → S) → B → S → List (StepOf Q A) → S
  state_after after base state [] = state
  state_after after base state (step ∷ more) =
      state_after after base (after base state step.seat step.request) more

  -- each request is sound, and each reply is the object's in the state after the steps before it
  abbrev pub IsLegal : (B → Q → Bool) → (B → S → ℕ → Q → S) → (B → S → ℕ → Q → A) → B → S
      → List (StepOf Q A) → Type 0
  IsLegal sound after reply base state [] = ⊤
  IsLegal sound after reply base state (step ∷ more) =
      (sound base step.request ≡ true) × (step.reply ≡ reply base state step.seat step.request)
      × IsLegal sound after reply base (after base state step.seat step.request) more

module _ {Q A : Type 0} where
  -- the step of this seat, with this request and this reply
  abbrev pub step_of : ℕ → Q → A → StepOf Q A
  step_of seat request reply = record { seat = seat; request = request; reply = reply }

  -- the steps of the seat with this number, in their order
  abbrev pub calls_by : ℕ → List (StepOf Q A) → List (StepOf Q A)
  calls_by number history = part_of (λ (step : StepOf Q A). step.seat) number history

  -- the new history begins with the old one and ends with this step
  abbrev pub Extends : List (StepOf Q A) → List (StepOf Q A) → StepOf Q A → Type 0
  Extends old new step = (between : List (StepOf Q A)) × (new ≡ (old ++ between) ++ step ∷ [])
