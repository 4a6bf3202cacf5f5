use Rattle.std.proofs.Common.{length}
use Rattle.demand_workers.proofs.notes.+cost_enough.Given as goal

abbrev pub decreases-cost_enough : goal.decreases-cost_enough
decreases-cost_enough l = length l.places.now
