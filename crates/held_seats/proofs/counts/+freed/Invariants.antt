use Rattle.std.proofs.Common.{length}
use Rattle.held_seats.proofs.counts.+freed.Given as goal

abbrev pub decreases-freed : goal.decreases-freed
decreases-freed l = length l.sections.now
