-- What each step of a call tells the seat that takes it. A seat is its view with the slots that it
-- holds.
use Rattle.std.specs.Prelude.{◌≡◌, ◌≢◌, ℕ, ◌+◌, ◌<◌, ◌≤◌, Bool, true, Option, Some, List, [], ◌∷◌, ◌++◌, length}
use Rattle.std.specs.Vec.{vec_capacity}
use Rattle.atomic_table.specs.Table.{Me, Step}
use Rattle.market_units.specs.Beginnings.{BeginsWith}
use Rattle.chronicle.specs.declared.journal.StepOf.{StepOf}
use Rattle.chronicle.specs.declared.kept.Kept.{Kept}
use Rattle.chronicle.specs.declared.view.View.{View}
use Rattle.chronicle.specs.declared.view.Phase.TheVariants as phase
use Rattle.chronicle.specs.History.{state_after, IsLegal, calls_by, step_of}
use Rattle.chronicle.specs.Views.{sum_of, waiting, in_turn, done}
use Rattle.chronicle.specs.Rule.{IsAfter}

-- a seat at the table: its view, and the slots that it holds
abbrev pub Place : (T B S Q A : Type 0) → Type 0
Place T B S Q A = Me (Kept T Q A) (Option (View B S Q A))

module _ {T B S Q A : Type 0} where
  -- the seat has this view and no slot
  abbrev pub At : Place T B S Q A → View B S Q A → Type 0
  At me v = me ≡ (Some v, [])

  -- the seat has this view, and the slot with this in it
  abbrev pub Has : Place T B S Q A → View B S Q A → Kept T Q A → Type 0
  Has me v kept = me ≡ (Some v, (0, kept) ∷ [])

  -- a seat that makes no call, has joined no other, and has calls left
  abbrev pub MayCall : Place T B S Q A → Type 0
  MayCall me =
      (v : View B S Q A) × At me v × (v.phase ≡ phase.Idle) × (v.joined ≡ []) × (v.plan ≡ [])
      × (0 < v.left)

  -- a seat that waits with this ticket
  abbrev pub IsWaiting : ℕ → Place T B S Q A → Type 0
  IsWaiting ticket me =
      (v : View B S Q A) × At me v × (v.phase ≡ phase.Waits ticket) × (v.joined ≡ [])
      × (v.plan ≡ [])

  -- a ticket was drawn
  abbrev pub Draws : Place T B S Q A → ℕ → Place T B S Q A → Type 0
  Draws me ticket new = (v : View B S Q A) → At me v → At new (waiting v ticket)

  -- the call that was made, the journal's last, was passed on
  abbrev pub Passes : Place T B S Q A → Place T B S Q A → Type 0
  Passes me new =
      (v : View B S Q A) (kept : Kept T Q A) (step : StepOf Q A) → Has me v kept
      → kept.journal.items ≡ v.seen ++ step ∷ [] → At new (done v step)

  abbrev pub drew : Step (Kept T Q A) → Place T B S Q A → ℕ → Place T B S Q A → Type 0
  drew step me found new = Draws me found new

  abbrev pub passed : Step (Kept T Q A) → Place T B S Q A → ℕ → Place T B S Q A → Type 0
  passed step me found new = Passes me new

module _ {T B S Q A : Type 0} (base_of : T → B) (state_of : T → S) (room : T → ℕ) (sound : B → Q → Bool) (after : B → S → ℕ → Q → S) (reply : B → S → ℕ → Q → A) where
  -- the seat has what the slot held, the object after the whole history, all of which it has seen;
  -- and its call fits
  pub record IsReady (v : View B S Q A) (kept : Kept T Q A) : Type 0 where
    pub turn : (t : ℕ) × (v.phase ≡ phase.InTurn t)
    pub legal : IsLegal sound after reply v.base v.opening v.seen
    pub is_after : IsAfter base_of state_of room sound after reply v.base v.opening v.allotments
        v.seen kept
    pub fits : length v.seen < sum_of v.allotments
    pub alone : (v.joined ≡ []) × (v.plan ≡ [])

  -- it is the seat's turn: it has seen more, with no other calls of its own, and it has the object
  pub record Serves (v : View B S Q A) (ticket : ℕ) (new : Place T B S Q A) : Type 0 where
    pub history : List (StepOf Q A)
    pub kept : Kept T Q A
    pub is : Has new (in_turn v ticket history) kept
    pub begins : BeginsWith history v.seen
    pub own : calls_by v.number history ≡ v.own
    pub ready : IsReady (in_turn v ticket history) kept

  -- where the ticket that was found is the seat's it is served, and else nothing happened
  abbrev pub looked : Step (Kept T Q A) → Place T B S Q A → ℕ → Place T B S Q A → Type 0
  looked step me found new =
      (v : View B S Q A) (ticket : ℕ) → At me v → v.phase ≡ phase.Waits ticket
      → (found ≢ ticket → new ≡ me) × (found ≡ ticket → Serves v ticket new)

  -- the object took the step and noted it
  pub record HasStepped (v : View B S Q A) (step : StepOf Q A) (kept : Kept T Q A) : Type 0 where
    pub same_base : base_of kept.object ≡ v.base
    pub last : state_of kept.object
        ≡ after v.base (state_after after v.base v.opening v.seen) step.seat step.request
    pub journal : kept.journal.items ≡ v.seen ++ step ∷ []
    pub roomy : sum_of v.allotments ≤ length v.seen + 1 + room kept.object
    pub reserved : sum_of v.allotments ≤ vec_capacity kept.journal

  -- the seat, in turn, has the object, and may ask this of it
  pub record MayStep (number : ℕ) (request : Q) (me : Place T B S Q A) : Type 0 where
    pub view : View B S Q A
    pub kept : Kept T Q A
    pub is : Has me view kept
    pub numbered : view.number ≡ number
    pub ready : IsReady view kept
    pub sound_request : sound view.base request ≡ true

  -- the seat took its step, and has the object after it
  abbrev pub Steps : ℕ → Q → A → Place T B S Q A → Place T B S Q A → Type 0
  Steps number request answer me new =
      (v : View B S Q A) (kept : Kept T Q A) → Has me v kept
      → (answer ≡ reply v.base (state_after after v.base v.opening v.seen) number request)
      × ((now : Kept T Q A) × Has new v now × HasStepped v (step_of number request answer) now)

  -- the seat has taken this step, which was its to take, and has still to pass on
  pub record HasToPass (step : StepOf Q A) (me : Place T B S Q A) : Type 0 where
    pub view : View B S Q A
    pub kept : Kept T Q A
    pub is : Has me view kept
    pub turn : (t : ℕ) × (view.phase ≡ phase.InTurn t)
    pub numbered : view.number ≡ step.seat
    pub alone : (view.joined ≡ []) × (view.plan ≡ [])
    pub sound_request : sound view.base step.request ≡ true
    pub replied : step.reply
        ≡ reply view.base (state_after after view.base view.opening view.seen) step.seat
        step.request
    pub stepped : HasStepped view step kept
