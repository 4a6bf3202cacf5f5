use Rattle.std.proofs.Common.{◌≡◌, ◌+◌}
use Rattle.desk_tests.proofs.tests.histories.call_often.Given as goal

-- it is the same seat, with one call fewer for each turn
abbrev pub invariant-loop : goal.invariant-loop
invariant-loop g l = (l.seat.chronicle ≡ l.initial.seat.chronicle) × (l.seat.number ≡ l.initial.seat.number) × (l.seat.left + l.counter ≡ 50)
