-- A seat of a round's board, and what it draws.
use Rattle.std.specs.Prelude.{ℕ, ◌≡◌, ◌<◌, ⊤, None, List}
use Rattle.bundle_rules.specs.declared.bundle.Bundle.{Bundle}
use Rattle.task_board.specs.Seats.{BoardOf, SeatOf}
use Rattle.task_board.specs.Seats.{IsSeatOf as IsBoardSeat, HoldsNothing as HoldsNoTask, IsFree as IsFreeSeat, IsFinished as IsFinishedSeat}
use Rattle.task_board.specs.Seats.{HasBegun as HasBoardBegun, AreBack as AreBoardBack}
use Rattle.price_board.specs.declared.drawn.Draw.{Draw}
use Rattle.price_board.specs.declared.drawn.Draw.TheVariants.{Task, Done}
use Rattle.price_board.specs.declared.drawn.Drawn.{Drawn}
use Rattle.price_board.specs.declared.terms.Terms.{Terms}
use Rattle.price_board.specs.Asked.{round_rules, task_at}
use Rattle.price_board.specs.Rows.{number_of}
use Rattle.price_board.specs.Tasks.{IsTask}
use Rattle.price_board.specs.Terms.{version_count, task_count}

-- a board of a round, and a seat of it
abbrev pub RoundBoard : Type 0
RoundBoard = BoardOf Terms Bundle

abbrev pub RoundSeat : Type 0
RoundSeat = SeatOf Terms Bundle

abbrev pub IsSeatOf : RoundBoard → RoundSeat → Type 0
IsSeatOf board seat = IsBoardSeat round_rules board seat

-- it holds no task
abbrev pub HoldsNothing : RoundBoard → RoundSeat → Type 0
HoldsNothing board seat = HoldsNoTask round_rules board seat

-- a worker that may draw
abbrev pub IsFree : RoundBoard → RoundSeat → Type 0
IsFree board seat = IsFreeSeat round_rules board seat

-- a worker that was answered that there is no task
abbrev pub IsFinished : RoundBoard → RoundSeat → Type 0
IsFinished board seat = IsFinishedSeat round_rules board seat

-- a board that has just begun, with its seats, one for each of so many workers
abbrev pub HasBegun : RoundBoard → List RoundSeat → ℕ → Type 0
HasBegun board seats workers = HasBoardBegun round_rules board seats workers

-- all seats are back, and each worker was answered that there is no task
abbrev pub AreBack : RoundBoard → List RoundSeat → Type 0
AreBack board seats = AreBoardBack round_rules board seats

-- the task with this number
pub record IsNumbered (terms : Terms) (drawn : Drawn) : Type 0 where
  pub below : drawn.number < task_count terms
  pub its_task : drawn.task ≡ task_at terms drawn.number

-- a drawn task is that of its number, of a version and a student of the round; with no list it is
-- the student's at the version's prices
pub record IsDrawn (terms : Terms) (drawn : Drawn) : Type 0 where
  pub numbered : IsNumbered terms drawn
  pub its_task : IsTask terms.crowd (version_count terms) drawn.task
  pub by_version : terms.list ≡ None
      → drawn.number ≡ number_of terms drawn.task.version drawn.task.student.0
  pub plain : terms.list ≡ None → drawn.task.raised ≡ None

-- if there is a drawn task, it is of the round
abbrev pub IsWithin : Terms → Draw → Type 0
IsWithin terms Done = ⊤
IsWithin terms (Task drawn) = IsDrawn terms drawn
