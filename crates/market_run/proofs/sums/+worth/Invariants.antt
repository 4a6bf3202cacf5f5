use Rattle.std.proofs.Common.{length}
use Rattle.market_run.proofs.sums.+worth.Given as goal

abbrev pub decreases-worth : goal.decreases-worth
decreases-worth l = length l.menus.now
