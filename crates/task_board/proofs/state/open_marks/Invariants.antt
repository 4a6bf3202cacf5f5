use Rattle.std.proofs.Common.{◌≡◌, replicate}
use Rattle.task_board.specs.declared.mark.Mark.TheVariants.{Open}
use Rattle.task_board.proofs.state.open_marks.Given as goal

abbrev pub invariant-loop : goal.invariant-loop
invariant-loop g l = l.marks.items ≡ replicate l.counter Open
