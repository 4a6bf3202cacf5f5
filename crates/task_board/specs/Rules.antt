-- What the tasks of a board ask.
use Rattle.std.specs.Prelude.{ℕ, ◌≡◌, ◌<◌, Bool, true, false, Option, Some, None, List, length, slice_index_or, slice_set}

-- By the terms B, the rules of tasks that are numbered from 0 and have answers A
pub record Rules (B A : Type 0) : Type 0 where
  -- how many tasks there are
  pub count : B → ℕ
  -- whether this is a right answer to the task
  pub is_right : B → ℕ → A → Bool
  -- whether the task is over, where these answers were posted: it is no longer asked
  pub is_over : B → List (Option A) → ℕ → Bool
  -- the number that is told to who posts the task when it is over
  pub tally : B → List (Option A) → ℕ → ℕ

-- a task that is over stays over, whichever answer is posted next
abbrev pub IsLasting : {B A : Type 0} → Rules B A → Type 0
IsLasting {B = B} {A = A} rules =
    (terms : B) (answers : List (Option A)) (task other : ℕ) (answer : A)
    → length answers ≡ rules.count terms → other < length answers
    → slice_index_or answers other (Some answer) ≡ None → rules.is_over terms answers task ≡ true
    → rules.is_over terms (slice_set answers other (Some answer)) task ≡ true

-- The rules of so many tasks with these right answers, where no task is over before it is posted and
-- nothing is told
abbrev pub all_asked : {B A : Type 0} → (B → ℕ) → (B → ℕ → A → Bool) → Rules B A
all_asked count is_right =
    record {
      count = count;
      is_right = is_right;
      is_over = λ terms answers task. false;
      tally = λ terms answers task. 0;
    }

-- such tasks last
pub never_over : {B A : Type 0} (count : B → ℕ) (is_right : B → ℕ → A → Bool)
    → IsLasting (all_asked count is_right)
never_over count is_right terms answers task other answer each below none over = over
