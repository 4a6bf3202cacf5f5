use Rattle.std.proofs.Common.{length}
use Rattle.bundle_rules.proofs.preferences.+clashes_with_none.Given as goal

abbrev pub decreases-clashes_with_none : goal.decreases-clashes_with_none
decreases-clashes_with_none l = length l.others.now.places.now
