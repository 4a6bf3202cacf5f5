use Rattle.std.proofs.Common.{length}
use Rattle.bundle_bounds.proofs.places.+adjustments_with.Given as goal

abbrev pub decreases-adjustments_with : goal.decreases-adjustments_with
decreases-adjustments_with l = length l.chosen.now
