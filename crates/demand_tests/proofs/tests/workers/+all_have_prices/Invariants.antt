use Rattle.std.proofs.Common.{length}
use Rattle.demand_tests.proofs.tests.workers.+all_have_prices.Given as goal

abbrev pub decreases-all_have_prices : goal.decreases-all_have_prices
decreases-all_have_prices l = length l.batch.now
