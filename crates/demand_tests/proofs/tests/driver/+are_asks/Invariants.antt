use Rattle.std.proofs.Common.{length}
use Rattle.demand_tests.proofs.tests.driver.+are_asks.Given as goal

abbrev pub decreases-are_asks : goal.decreases-are_asks
decreases-are_asks l = length l.asks.now
