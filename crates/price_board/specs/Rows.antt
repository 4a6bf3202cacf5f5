-- The tasks of a round with no list by version: the numbers of each, and what stands at them.
use Rattle.std.specs.Prelude.{ℕ, ◌+◌, ◌*◌, Option, None, Some, List, slice_index_or, take, drop}
use Rattle.bundle_rules.specs.declared.bundle.Bundle.{Bundle}
use Rattle.task_board.specs.declared.mark.Mark.{Mark}
use Rattle.task_board.specs.declared.mark.Mark.TheVariants.{Open}
use Rattle.task_board.specs.Marks.{answer_in}
use Rattle.price_board.specs.declared.drawn.Draw.{Draw}
use Rattle.price_board.specs.declared.drawn.Draw.TheVariants.{Task as Drawn, Done}
use Rattle.price_board.specs.declared.round.Task.{Task}
use Rattle.price_board.specs.declared.terms.Terms.{Terms}
use Rattle.price_board.specs.Terms.{student_count}

-- the number of a version's and a student's task: by version, then student
abbrev pub number_of : Terms → ℕ → ℕ → ℕ
number_of terms version student = version * student_count terms + student

-- what stands at the tasks of a version
abbrev pub row_of : {X : Type 0} → Terms → List X → ℕ → List X
row_of terms list version =
    take (student_count terms) (drop (version * student_count terms) list)

-- where a task stands
abbrev pub mark_of : Terms → List (Mark Bundle) → ℕ → ℕ → Mark Bundle
mark_of terms marks version student = slice_index_or (row_of terms marks version) student Open

-- what was posted there; nothing where there is a list
abbrev pub posted_in : Option (List Task) → Terms → List (Mark Bundle) → ℕ → ℕ → Option Bundle
posted_in None terms marks version student = answer_in (mark_of terms marks version student)
posted_in (Some list) terms marks version student = None

-- the number of the task that was drawn, if there was one
abbrev pub number_drawn : Draw → Option ℕ
number_drawn Done = None
number_drawn (Drawn drawn) = Some drawn.number
