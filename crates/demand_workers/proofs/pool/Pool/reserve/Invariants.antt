use Rattle.std.proofs.Common.{◌≡◌, length}
use Rattle.demand_workers.proofs.pool.Pool.reserve.Given as goal

abbrev pub invariant-loop : goal.invariant-loop
invariant-loop l = length l.workspaces.items ≡ l.counter
