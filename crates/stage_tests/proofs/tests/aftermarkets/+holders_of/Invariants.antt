use Rattle.std.proofs.Common.{length}
use Rattle.stage_tests.proofs.tests.aftermarkets.+holders_of.Given as goal

abbrev pub decreases-holders_of : goal.decreases-holders_of
decreases-holders_of l = length l.bundles.now
