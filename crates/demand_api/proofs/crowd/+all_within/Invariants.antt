use Rattle.std.proofs.Common.{length}
use Rattle.demand_api.proofs.crowd.+all_within.Given as goal

abbrev pub decreases-all_within : goal.decreases-all_within
decreases-all_within l = length l.menus.now
