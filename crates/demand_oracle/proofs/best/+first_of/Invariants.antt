use Rattle.std.proofs.Common.{length}
use Rattle.demand_oracle.proofs.best.+first_of.Given as goal

abbrev pub decreases-first_of : goal.decreases-first_of
decreases-first_of l = length l.bundles.now
