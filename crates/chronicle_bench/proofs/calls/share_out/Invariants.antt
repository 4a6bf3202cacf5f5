use Rattle.std.proofs.Common.{◌≡◌, ◌≤◌, ◌*◌, length}
use Rattle.std.specs.List.{All}
use Rattle.std.specs.Vec.{vec_capacity}
use Rattle.chronicle.specs.Views.{sum_of}
use Rattle.chronicle_bench.proofs.calls.share_out.Given as goal

-- so many seats have their allotment
abbrev pub invariant-seats : goal.invariant-seats
invariant-seats l = record {
  count : length l.allotments.items ≡ l.counter;
  each : All (λ allotment. allotment ≡ l.calls) l.allotments.items;
  sum : sum_of l.allotments.items ≡ l.all;
  few : l.all ≤ l.counter * 1000000;
  capacity : vec_capacity l.allotments ≡ l.fn.seats;
}
