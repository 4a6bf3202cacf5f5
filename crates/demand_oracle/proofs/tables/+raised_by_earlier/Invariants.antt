use Rattle.std.proofs.Common.{length}
use Rattle.demand_oracle.proofs.tables.+raised_by_earlier.Given as goal

abbrev pub decreases-raised_by_earlier : goal.decreases-raised_by_earlier
decreases-raised_by_earlier l = length l.pairs.now
