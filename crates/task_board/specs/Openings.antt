-- How a board begins.
use Rattle.std.specs.Prelude.{◌≡◌, Option, None, List, replicate}
use Rattle.task_board.specs.declared.data.Progress.{Progress}
use Rattle.task_board.specs.declared.mark.Mark.TheVariants.{Open}
use Rattle.task_board.specs.Rules.{Rules}
use Rattle.task_board.specs.Shared.{progress}

module _ {B A : Type 0} (rules : Rules B A) (terms : B) where
  -- no task is answered
  abbrev pub no_answers : List (Option A)
  no_answers = replicate (rules.count terms) None

  -- nobody drew a task
  abbrev pub opening_of : Progress A
  opening_of = progress (replicate (rules.count terms) Open)

  -- a board that is at its opening
  abbrev pub IsOpening : Progress A → Type 0
  IsOpening now = now ≡ opening_of
