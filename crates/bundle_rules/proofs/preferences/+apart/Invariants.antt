use Rattle.std.proofs.Common.{length}
use Rattle.bundle_rules.proofs.preferences.+apart.Given as goal

abbrev pub decreases-apart : goal.decreases-apart
decreases-apart l = length l.picks.now.places.now
