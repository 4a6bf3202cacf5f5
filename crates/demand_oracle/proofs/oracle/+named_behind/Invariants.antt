use Rattle.std.proofs.Common.{length}
use Rattle.demand_oracle.proofs.oracle.+named_behind.Given as goal

abbrev pub decreases-named_behind : goal.decreases-named_behind
decreases-named_behind l = length l.nodes.now
