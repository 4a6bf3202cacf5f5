use Rattle.std.proofs.Common.{length}
use Rattle.bundle_bounds.proofs.pruning.+fits.Given as goal

abbrev pub decreases-fits : goal.decreases-fits
decreases-fits l = length l.some.now
