use Rattle.std.proofs.Common.{length}
use Rattle.demand_workers.proofs.cheaper.+spares.Given as goal

abbrev pub decreases-spares : goal.decreases-spares
decreases-spares l = length l.places.now
