use Rattle.std.proofs.Common.{length, ◌-◌}
use Rattle.fairness_audit.proofs.weights.+gains.Given as goal

abbrev pub decreases-gains : goal.decreases-gains
decreases-gains l = length l.menu.now.places - l.other
