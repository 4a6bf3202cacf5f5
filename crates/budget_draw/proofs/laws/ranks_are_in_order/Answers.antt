use Rattle.budget_draw.proofs.Counts.{ranks_in_order}
use Rattle.budget_draw.proofs.laws.ranks_are_in_order.Goals as goal

pub returns : goal.returns
returns c = ranks_in_order
