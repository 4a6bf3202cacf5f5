use Rattle.std.proofs.Common.{length}
use Rattle.bundle_rules.proofs.preferences.+credits_of.Given as goal

abbrev pub decreases-credits_of : goal.decreases-credits_of
decreases-credits_of l = length l.picks.now.places.now
