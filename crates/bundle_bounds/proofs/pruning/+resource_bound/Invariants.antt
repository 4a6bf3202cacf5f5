use Rattle.std.proofs.Common.{length}
use Rattle.bundle_bounds.proofs.pruning.+resource_bound.Given as goal

abbrev pub decreases-resource_bound : goal.decreases-resource_bound
decreases-resource_bound l = length l.some.now
