-- What the marks of a board keep.
use Rattle.std.specs.Prelude.{ℕ, ◌≡◌, ◌<◌, ◌≤◌, ◌⊎◌, true, false, List, Some, IsSome, length}
use Rattle.task_board.specs.declared.mark.Mark.{Mark}
use Rattle.task_board.specs.Marks.{mark_at, answer_in}
use Rattle.task_board.specs.Rules.{Rules}
use Rattle.task_board.specs.Steps.{is_over, is_left}

module _ {B A : Type 0} (rules : Rules B A) (terms : B) where
  -- each posted answer is a right one
  abbrev pub AreRight : List (Mark A) → Type 0
  AreRight marks =
      (task : ℕ) (answer : A) → answer_in (mark_at marks task) ≡ Some answer
      → rules.is_right terms task answer ≡ true

  -- each task is answered or over
  abbrev pub AreSettled : List (Mark A) → Type 0
  AreSettled marks =
      (task : ℕ) → task < rules.count terms
      → IsSome (answer_in (mark_at marks task)) ⊎ (is_over rules terms marks task ≡ true)

  -- a mark for each task, which 32 bits can number; right answers; and no task left before this one
  pub record KeepsMarks (marks : List (Mark A)) (next : ℕ) : Type 0 where
    pub each : length marks ≡ rules.count terms
    pub few : length marks ≤ 4294967295
    pub right : AreRight marks
    pub passed : (task : ℕ) → task < next → is_left rules terms marks task ≡ false
