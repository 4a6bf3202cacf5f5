use Rattle.std.proofs.Common.{arith, ◌≡◌}
use Rattle.demand_api.specs.Parts.{greatest}
use Rattle.demand_api.proofs.Parts.{most_high, top_found}
use Rattle.demand_api.proofs.crowd.Crowd.top.Goals as goal

pub overflow_add-result : goal.overflow_add-result
overflow_add-result c =
    let is : c.greatest_budget.result ≡ greatest c.args.self.now.budgets.items = rw c.deref.ensures.value at c.greatest_budget.ensures in
    omega (arith, is, most_high c.args.self.now)

pub returns : goal.returns
returns c = top_found c.args.self.now c.greatest_budget.result (rw c.deref.ensures.value at c.greatest_budget.ensures)
