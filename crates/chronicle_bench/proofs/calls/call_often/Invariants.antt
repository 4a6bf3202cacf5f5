use Rattle.std.proofs.Common.{◌≡◌, ◌+◌}
use Rattle.chronicle_bench.proofs.calls.call_often.Given as goal

-- the calls so far and those that are left are the task's
abbrev pub invariant-loop : goal.invariant-loop
invariant-loop g l = (l.seat.chronicle ≡ l.initial.seat.chronicle) × (l.seat.left + l.counter ≡ l.task.calls)
