use Rattle.std.proofs.Common.{length}
use Rattle.demand_api.proofs.counting.+uncount_bundle.Given as goal

abbrev pub decreases-uncount_bundle : goal.decreases-uncount_bundle
decreases-uncount_bundle l = length l.sections.now
