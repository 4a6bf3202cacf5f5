use Rattle.std.proofs.Common.{length}
use Rattle.bundle_rules.proofs.demand.+all_priced.Given as goal

abbrev pub decreases-all_priced : goal.decreases-all_priced
decreases-all_priced l = length l.places.now
