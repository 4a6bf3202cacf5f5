-- A seat of a board between its calls.
use Rattle.std.specs.Prelude.{ℕ, ◌≡◌, ◌<◌, ◌≤◌, ◌+◌, ◌-◌, ◌*◌, Bool, true, false, List, [], Some, None, All, Any, length, filter, slice_index_or, take}
use Rattle.std.specs.List.{count_by}
use Rattle.chronicle.specs.declared.journal.StepOf.{StepOf}
use Rattle.chronicle.specs.declared.origin.Origin.{Origin}
use Rattle.chronicle.specs.declared.standing.Standing.{Standing}
use Rattle.chronicle.specs.History.{IsLegal, state_after, calls_by}
use Rattle.task_board.specs.declared.calls.Call.{Call}
use Rattle.task_board.specs.declared.calls.Call.TheVariants.{Draw, Post}
use Rattle.task_board.specs.declared.calls.Reply.{Reply}
use Rattle.task_board.specs.declared.calls.Reply.TheVariants.{Draw as Drew, Post as Answered}
use Rattle.task_board.specs.declared.data.Progress.{Progress}
use Rattle.task_board.specs.declared.mark.Mark.{Mark}
use Rattle.task_board.specs.declared.mark.Mark.TheVariants.{Held}
use Rattle.task_board.specs.Marks.{mark_at, is_open}
use Rattle.task_board.specs.Openings.{IsOpening}
use Rattle.task_board.specs.Rules.{Rules}
use Rattle.task_board.specs.Shared.{is_sound, reply_to, progress_after}

-- a board, which contracts see as the origin of its chronicle
abbrev pub BoardOf : Type 0 → Type 0 → Type 0
BoardOf B A = Origin B (Progress A)

-- a seat of a board
abbrev pub SeatOf : Type 0 → Type 0 → Type 0
SeatOf B A = Standing B (Progress A) (Call A) Reply

-- a history of calls on a board
abbrev pub HistoryOf : Type 0 → Type 0
HistoryOf A = List (StepOf (Call A) Reply)

-- a reply that says that there is no task
abbrev pub is_done : Reply → Bool
is_done (Drew None) = true
is_done (Drew (Some task)) = false
is_done (Answered answer) = false

-- a call that posts
abbrev pub is_post : {A : Type 0} → Call A → Bool
is_post Draw = false
is_post (Post task answer) = true

module _ {A : Type 0} where
  -- how many of these calls were answered that there is no task
  abbrev pub dones : HistoryOf A → ℕ
  dones own = length (filter (λ (step : StepOf (Call A) Reply). is_done step.reply) own)

  -- how many of these calls are posts
  abbrev pub posts : HistoryOf A → ℕ
  posts own = length (filter (λ (step : StepOf (Call A) Reply). is_post step.request) own)

  -- how many tasks nobody drew
  abbrev pub undrawn : List (Mark A) → ℕ
  undrawn marks = count_by is_open marks

module _ {B A : Type 0} (rules : Rules B A) where
  -- where the tasks stand after a history
  abbrev pub marks_after : BoardOf B A → HistoryOf A → List (Mark A)
  marks_after board history =
      (state_after (progress_after rules) board.base board.opening history).marks

  -- where they stood before the last call of the seat: what it has seen ends with that call
  abbrev pub marks_before_last : BoardOf B A → SeatOf B A → List (Mark A)
  marks_before_last board seat = marks_after board (take (length seat.seen - 1) seat.seen)

  -- the seat holds the task, after all that it has seen
  abbrev pub Holds : BoardOf B A → SeatOf B A → ℕ → Type 0
  Holds board seat task = mark_at (marks_after board seat.seen) task ≡ Held seat.number

  -- A seat of the board's chronicle, of which nobody had drawn a task at first. It has twice as many
  -- calls as there are tasks, and one, those that it made and those that are left. At most one was
  -- answered that there is no task, and at most as many are posts as there are tasks. It has a call
  -- left for that answer, for each post that is left, and for each task that nobody drew
  pub record IsSeatOf (board : BoardOf B A) (seat : SeatOf B A) : Type 0 where
    pub of : seat.chronicle ≡ Some board
    pub opening : IsOpening rules board.base board.opening
    pub legal : IsLegal (is_sound rules) (progress_after rules) (reply_to rules) board.base
        board.opening seat.seen
    pub all_own : calls_by seat.number seat.seen ≡ seat.own
    pub one_done : dones seat.own ≤ 1
    pub few_posts : posts seat.own ≤ rules.count board.base
    pub calls : seat.left + length seat.own ≡ 2 * rules.count board.base + 1
    pub calls_left : rules.count board.base + 1 + undrawn (marks_after board seat.seen)
        ≤ seat.left + posts seat.own + dones seat.own

  -- it holds no task
  abbrev pub HoldsNothing : BoardOf B A → SeatOf B A → Type 0
  HoldsNothing board seat = (task : ℕ) → ¬ Holds board seat task

  -- it holds this task of the board and no other
  pub record HoldsOnly (board : BoardOf B A) (task : ℕ) (seat : SeatOf B A) : Type 0 where
    pub below : task < rules.count board.base
    pub holds : Holds board seat task
    pub alone : (other : ℕ) → Holds board seat other → other ≡ task

  -- A worker that may draw: it posted no more tasks than were drawn
  pub record IsFree (board : BoardOf B A) (seat : SeatOf B A) : Type 0 where
    pub is_seat : IsSeatOf board seat
    pub holds_nothing : HoldsNothing board seat
    pub not_done : dones seat.own ≡ 0
    pub each_posted : posts seat.own + undrawn (marks_after board seat.seen)
        ≤ rules.count board.base

  -- a worker that drew this task, and may post it: it posted no more than the other drawn ones
  pub record IsHolding (board : BoardOf B A) (task : ℕ) (seat : SeatOf B A) : Type 0 where
    pub is_seat : IsSeatOf board seat
    pub only : HoldsOnly board task seat
    pub not_done : dones seat.own ≡ 0
    pub others_posted : posts seat.own + undrawn (marks_after board seat.seen)
        < rules.count board.base

  -- a worker that was answered that there is no task
  pub record IsFinished (board : BoardOf B A) (seat : SeatOf B A) : Type 0 where
    pub is_seat : IsSeatOf board seat
    pub holds_nothing : HoldsNothing board seat
    pub done : dones seat.own ≡ 1

  -- A board that has just begun, and its seats: one for each of so many workers, numbered from 0,
  -- which may draw and has seen nothing
  pub record HasBegun (board : BoardOf B A) (seats : List (SeatOf B A)) (workers : ℕ) : Type 0 where
    pub allotments : length board.allotments ≡ workers
    pub count : length seats ≡ workers
    pub numbers : (n : ℕ) (d : SeatOf B A) → n < workers → (slice_index_or seats n d).number ≡ n
    pub free : All (IsFree board) seats
    pub fresh : All (λ (s : SeatOf B A). (s.seen ≡ []) × (s.own ≡ [])) seats

  -- all seats of the board are back, in any order, and each worker was answered that there is no task
  pub record AreBack (board : BoardOf B A) (seats : List (SeatOf B A)) : Type 0 where
    pub all : (n : ℕ) → n < length board.allotments
        → Any (λ (s : SeatOf B A). s.number ≡ n) seats
    pub finished : All (IsFinished board) seats
