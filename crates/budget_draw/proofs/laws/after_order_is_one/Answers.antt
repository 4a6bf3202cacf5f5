use Rattle.budget_draw.proofs.OrderLaw.{after_order_law}
use Rattle.budget_draw.proofs.laws.after_order_is_one.Goals as goal

pub returns : goal.returns
returns c = after_order_law
