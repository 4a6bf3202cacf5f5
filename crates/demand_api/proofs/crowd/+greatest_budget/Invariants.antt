use Rattle.std.proofs.Common.{length}
use Rattle.demand_api.proofs.crowd.+greatest_budget.Given as goal

abbrev pub decreases-greatest_budget : goal.decreases-greatest_budget
decreases-greatest_budget l = length l.budgets.now
