use Rattle.std.proofs.Common.{length}
use Rattle.bundle_bounds.proofs.opens.+hopes.Given as goal

abbrev pub decreases-hopes : goal.decreases-hopes
decreases-hopes l = length l.later.now
