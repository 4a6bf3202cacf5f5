use Rattle.std.proofs.Common.{length}
use Rattle.fairness_audit.proofs.weights.+sum_of.Given as goal

abbrev pub decreases-sum_of : goal.decreases-sum_of
decreases-sum_of l = length l.sections.now
