use Rattle.std.proofs.Common.{◌≤◌}
use Rattle.demand_oracle.proofs.multipliers.items_of.Given as goal

-- no more are written than places were seen
abbrev pub invariant-loop-place : goal.invariant-loop-place
invariant-loop-place l = l.count ≤ l.place
