-- The board as an object: which calls are sound, the reply to each, and the progress after it.
use Rattle.std.specs.Prelude.{ℕ, ◌&&◌, Bool, true, List, nat_lt}
use Rattle.task_board.specs.declared.calls.Call.{Call}
use Rattle.task_board.specs.declared.calls.Call.TheVariants.{Draw, Post}
use Rattle.task_board.specs.declared.calls.Reply.{Reply}
use Rattle.task_board.specs.declared.calls.Reply.TheVariants.{Draw as Drew, Post as Answered}
use Rattle.task_board.specs.declared.data.Progress.{Progress}
use Rattle.task_board.specs.declared.mark.Mark.{Mark}
use Rattle.task_board.specs.Rules.{Rules}
use Rattle.task_board.specs.Steps.{first_left, marks_drawn, post_answer, marks_posted}

abbrev pub progress : {A : Type 0} → List (Mark A) → Progress A
progress marks = record { marker = record {}; marks = marks }

module _ {B A : Type 0} (rules : Rules B A) where
  -- a post is of a task of the board, with a right answer
  abbrev pub is_sound : B → Call A → Bool
  is_sound terms Draw = true
  is_sound terms (Post task answer) =
      nat_lt task (rules.count terms) && rules.is_right terms task answer

  -- the reply to a call
  abbrev pub reply_to : B → Progress A → ℕ → Call A → Reply
  reply_to terms now seat Draw = Drew (first_left rules terms now.marks)
  reply_to terms now seat (Post task answer) = Answered (post_answer rules terms now.marks seat task)

  -- where the tasks stand after a call
  abbrev pub progress_after : B → Progress A → ℕ → Call A → Progress A
  progress_after terms now seat Draw = progress (marks_drawn rules terms now.marks seat)
  progress_after terms now seat (Post task answer) =
      progress (marks_posted rules terms now.marks seat task answer)
