use Rattle.std.proofs.Common.{length}
use Rattle.bundle_rules.proofs.preferences.+adjustments_of.Given as goal

abbrev pub decreases-adjustments_of : goal.decreases-adjustments_of
decreases-adjustments_of l = length l.others.now.places.now
