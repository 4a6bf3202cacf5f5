-- Where the tasks of a board stand: a mark for each, in their order.
use Rattle.std.specs.Prelude.{ℕ, ◌==◌, Bool, true, false, Option, Some, None, List, map, slice_index_or}
use Rattle.task_board.specs.declared.mark.Mark.{Mark}
use Rattle.task_board.specs.declared.mark.Mark.TheVariants.{Open, Held, Filled, Spent}

module _ {A : Type 0} where
  -- where a task stands
  abbrev pub mark_at : List (Mark A) → ℕ → Mark A
  mark_at marks task = slice_index_or marks task Open

  -- nobody drew the task
  abbrev pub is_open : Mark A → Bool
  is_open Open = true
  is_open (Held seat) = false
  is_open (Filled seat answer) = false
  is_open (Spent seat) = false

  -- the seat holds the task
  abbrev pub is_held_by : ℕ → Mark A → Bool
  is_held_by seat Open = false
  is_held_by seat (Held other) = other == seat
  is_held_by seat (Filled other answer) = false
  is_held_by seat (Spent other) = false

  -- the answer that was posted for the task
  abbrev pub answer_in : Mark A → Option A
  answer_in Open = None
  answer_in (Held seat) = None
  answer_in (Filled seat answer) = Some answer
  answer_in (Spent seat) = None

  -- the answers that were posted, in the order of the tasks
  abbrev pub answers_in : List (Mark A) → List (Option A)
  answers_in marks = map answer_in marks
