use Rattle.std.proofs.Common.{ℕ, ◌≡◌, ◌<◌, ◌-◌, false, vec_len}
use Rattle.task_board.specs.Steps.{is_left}
use Rattle.task_board.proofs.state.BoardState.next_left.Given as goal

-- no task before it is left
abbrev pub invariant-tasks : goal.invariant-tasks
invariant-tasks g l = (task : ℕ) → task < l.next → is_left g.T.Tasks.rules l.self.terms l.self.marks task ≡ false

abbrev pub decreases-tasks : goal.decreases-tasks
decreases-tasks g l = vec_len l.self-inside.marks - l.next
