-- The steps of a board: draws and posts.
use Rattle.std.specs.Prelude.{ℕ, zero, suc, ◌+◌, ◌&&◌, Bool, not, Option, Some, None, List, length, slice_set, if◌then◌else◌}
use Rattle.task_board.specs.declared.calls.Posted.{Posted}
use Rattle.task_board.specs.declared.calls.Posted.TheVariants.{NotYours, Late, Taken}
use Rattle.task_board.specs.declared.mark.Mark.{Mark}
use Rattle.task_board.specs.declared.mark.Mark.TheVariants.{Held, Filled, Spent}
use Rattle.task_board.specs.Marks.{mark_at, is_open, is_held_by, answers_in}
use Rattle.task_board.specs.Rules.{Rules}

-- the first of so many numbers from this one on that passes the test
abbrev pub first_from : (ℕ → Bool) → ℕ → ℕ → Option ℕ
first_from test from zero = None
first_from test from (suc more) = if test from then Some from else first_from test (from + 1) more

-- the seat holds the task, if there is one
abbrev pub with_holder : {A : Type 0} → ℕ → Option ℕ → List (Mark A) → List (Mark A)
with_holder seat None marks = marks
with_holder seat (Some task) marks = slice_set marks task (Held seat)

module _ {B A : Type 0} (rules : Rules B A) (terms : B) where
  -- the task is over, by the answers that were posted
  abbrev pub is_over : List (Mark A) → ℕ → Bool
  is_over marks task = rules.is_over terms (answers_in marks) task

  -- nobody drew the task, and it is not over
  abbrev pub is_left : List (Mark A) → ℕ → Bool
  is_left marks task = is_open (mark_at marks task) && not (is_over marks task)

  -- a draw gives the first task that is left, or says that there is none
  abbrev pub first_left : List (Mark A) → Option ℕ
  first_left marks = first_from (is_left marks) 0 (length marks)

  -- the seat then holds it
  abbrev pub marks_drawn : List (Mark A) → ℕ → List (Mark A)
  marks_drawn marks seat = with_holder seat (first_left marks) marks

  -- a post of a task that the seat does not hold is refused; where the task is over it is late, with
  -- the tally; else it is taken
  abbrev pub post_answer : List (Mark A) → ℕ → ℕ → Posted
  post_answer marks seat task =
      if is_held_by seat (mark_at marks task)
      then (if is_over marks task then Late (rules.tally terms (answers_in marks) task) else Taken)
      else NotYours

  -- what is taken stands at the task, what is late ends the holding alone, and what is refused
  -- changes nothing
  abbrev pub marks_posted : List (Mark A) → ℕ → ℕ → A → List (Mark A)
  marks_posted marks seat task answer =
      if is_held_by seat (mark_at marks task)
      then slice_set marks task (if is_over marks task then Spent seat else Filled seat answer)
      else marks
