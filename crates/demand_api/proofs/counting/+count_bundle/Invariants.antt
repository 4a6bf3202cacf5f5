use Rattle.std.proofs.Common.{length}
use Rattle.demand_api.proofs.counting.+count_bundle.Given as goal

abbrev pub decreases-count_bundle : goal.decreases-count_bundle
decreases-count_bundle l = length l.sections.now
