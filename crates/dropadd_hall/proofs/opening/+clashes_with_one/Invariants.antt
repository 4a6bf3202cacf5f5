use Rattle.std.proofs.Common.{length}
use Rattle.dropadd_hall.proofs.opening.+clashes_with_one.Given as goal

abbrev pub decreases-clashes_with_one : goal.decreases-clashes_with_one
decreases-clashes_with_one l = length l.others.now
