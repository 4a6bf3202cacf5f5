use Rattle.std.proofs.Common.{length}
use Rattle.bundle_rules.proofs.rows.+fill.Given as goal

abbrev pub decreases-fill : goal.decreases-fill
decreases-fill l = length l.pairs.now.list.now
