use Rattle.std.proofs.Common.{length}
use Rattle.bundle_rules.proofs.preferences.+utility_of.Given as goal

abbrev pub decreases-utility_of : goal.decreases-utility_of
decreases-utility_of l = length l.picks.now.places.now
