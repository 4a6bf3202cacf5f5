use Rattle.std.proofs.Common.{length}
use Rattle.demand_oracle.proofs.places.+hopes_of.Given as goal

abbrev pub decreases-hopes_of : goal.decreases-hopes_of
decreases-hopes_of l = length l.chosen.now
