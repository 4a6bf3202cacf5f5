use Rattle.std.proofs.Common.{◌≡◌, replicate}
use Rattle.row_region.proofs.region.filled.Given as goal

abbrev pub invariant-loop : goal.invariant-loop
invariant-loop g l = l.row.items ≡ replicate l.counter l.fill
