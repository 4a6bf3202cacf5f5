-- What a history of a board says of one task.
use Rattle.std.specs.Prelude.{ℕ, ◌≡◌, ◌==◌, ◌⊎◌, Bool, true, false, [], ◌∷◌, Some, None, filter}
use Rattle.chronicle.specs.declared.journal.StepOf.{StepOf}
use Rattle.chronicle.specs.History.{step_of}
use Rattle.task_board.specs.declared.calls.Call.{Call}
use Rattle.task_board.specs.declared.calls.Call.TheVariants.{Draw, Post}
use Rattle.task_board.specs.declared.calls.Posted.{Posted}
use Rattle.task_board.specs.declared.calls.Posted.TheVariants.{NotYours, Late, Taken}
use Rattle.task_board.specs.declared.calls.Reply.{Reply}
use Rattle.task_board.specs.declared.calls.Reply.TheVariants.{Draw as Drew, Post as Answered}
use Rattle.task_board.specs.Rules.{Rules}
use Rattle.task_board.specs.Seats.{HistoryOf}

module _ {A : Type 0} where
  -- a post for this task
  abbrev pub is_post_of : ℕ → Call A → Bool
  is_post_of task Draw = false
  is_post_of task (Post other answer) = other == task

  -- a call that drew the task, or that ended the holding of it
  abbrev pub is_on_call : ℕ → Call A → Reply → Bool
  is_on_call task call (Drew None) = false
  is_on_call task call (Drew (Some other)) = other == task
  is_on_call task call (Answered NotYours) = false
  is_on_call task call (Answered (Late count)) = is_post_of task call
  is_on_call task call (Answered Taken) = is_post_of task call

  -- the calls that drew the task, or ended the holding of it, in their order
  abbrev pub calls_on : ℕ → HistoryOf A → HistoryOf A
  calls_on task history =
      filter (λ (step : StepOf (Call A) Reply). is_on_call task step.request step.reply) history

  -- the seat drew the task
  abbrev pub drew : ℕ → ℕ → StepOf (Call A) Reply
  drew seat task = step_of seat Draw (Drew (Some task))

  -- the seat posted this answer to it
  abbrev pub posted : ℕ → ℕ → A → Posted → StepOf (Call A) Reply
  posted seat task answer said = step_of seat (Post task answer) (Answered said)

-- the task was drawn once, and a right answer was posted once after that, by the seat that drew it,
-- and it was told one of these
abbrev pub IsWorked : {B A : Type 0} → Rules B A → (Posted → Type 0) → B → HistoryOf A → ℕ → Type 0
IsWorked {B = B} {A = A} rules Is terms history task =
    (seat : ℕ) × (answer : A) × (said : Posted)
    × (calls_on task history ≡ drew seat task ∷ posted seat task answer said ∷ [])
    × (rules.is_right terms task answer ≡ true) × Is said

-- it was taken
abbrev pub IsTaken : Posted → Type 0
IsTaken said = said ≡ Taken

-- it was taken or late
abbrev pub IsTakenOrLate : Posted → Type 0
IsTakenOrLate said = (said ≡ Taken) ⊎ ((count : ℕ) × (said ≡ Late count))
