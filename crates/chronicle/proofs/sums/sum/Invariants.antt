use Rattle.std.proofs.Common.{◌≡◌, take}
use Rattle.chronicle.specs.Views.{sum_of}
use Rattle.chronicle.proofs.sums.sum.Given as goal

-- the calls so far are those of the allotments so far
abbrev pub invariant-loop-i : goal.invariant-loop-i
invariant-loop-i l = l.calls ≡ sum_of (take l.i l.allotments)
