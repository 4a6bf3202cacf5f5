use Rattle.budget_draw.proofs.OneOrder.{one_after_order_law}
use Rattle.budget_draw.proofs.laws.one_after_order.Goals as goal

pub returns : goal.returns
returns c = one_after_order_law
