use Rattle.std.proofs.Common.{◌≡◌, length}
use Rattle.chronicle.proofs.bells.Bells.hang.Given as goal

-- as many bells as seats were counted
abbrev pub invariant-seats : goal.invariant-seats
invariant-seats l = length l.parkers.items ≡ l.counter
