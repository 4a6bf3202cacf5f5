use Rattle.std.proofs.Common.{length}
use Rattle.fairness_audit.proofs.counts.+sum_up.Given as goal

abbrev pub decreases-sum_up : goal.decreases-sum_up
decreases-sum_up l = length l.rows.now
