-- A board that has come to its end.
use Rattle.std.specs.Prelude.{ℕ, ◌≡◌, ◌⊎◌, List, [], IsSome, All, Any, length}
use Rattle.market_units.specs.Beginnings.{BeginsWith}
use Rattle.chronicle.specs.declared.journal.StepOf.{StepOf}
use Rattle.chronicle.specs.History.{IsLegal, state_after, calls_by}
use Rattle.task_board.specs.declared.calls.Call.{Call}
use Rattle.task_board.specs.declared.calls.Reply.{Reply}
use Rattle.task_board.specs.declared.data.AnswersData.{AnswersData}
use Rattle.task_board.specs.Fates.{calls_on, IsWorked, IsTaken, IsTakenOrLate}
use Rattle.task_board.specs.Kept.{AreSettled}
use Rattle.task_board.specs.Marks.{mark_at, answer_in}
use Rattle.task_board.specs.Rules.{Rules}
use Rattle.task_board.specs.Seats.{BoardOf, SeatOf}
use Rattle.task_board.specs.Shared.{is_sound, reply_to, progress_after, progress}

module _ {B A : Type 0} (rules : Rules B A) (board : BoardOf B A) (seats : List (SeatOf B A)) where
  -- the answers of a board that these seats worked: they are read from one legal history of all
  -- their calls, which begins with what each has seen, and each task is answered or over
  pub record IsEndOf (end : AnswersData B A) : Type 0 where
    pub terms : end.terms ≡ board.base
    pub each : length end.marks ≡ rules.count board.base
    pub legal : IsLegal (is_sound rules) (progress_after rules) (reply_to rules) board.base
        board.opening end.history
    pub last : state_after (progress_after rules) board.base board.opening end.history
        ≡ progress end.marks
    pub settled : AreSettled rules end.terms end.marks
    pub by_seats : All (λ (step : StepOf (Call A) Reply). Any (λ (s : SeatOf B A). s.number
        ≡ step.seat) seats) end.history
    pub own : All (λ (s : SeatOf B A). calls_by s.number end.history ≡ s.own) seats
    -- the history begins with what each seat has seen
    pub seen : All (λ (s : SeatOf B A). BeginsWith end.history s.seen) seats
    -- each task that was drawn was posted once, by the seat that drew it
    pub tasks : (task : ℕ)
        → (calls_on task end.history ≡ [])
        ⊎ IsWorked rules IsTakenOrLate board.base end.history task
    -- and was taken where it is answered
    pub taken : (task : ℕ) → IsSome (answer_in (mark_at end.marks task))
        → IsWorked rules IsTaken board.base end.history task
