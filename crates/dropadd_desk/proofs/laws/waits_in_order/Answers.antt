use Rattle.dropadd_desk.proofs.InOrder.{waits_in_order}
use Rattle.dropadd_desk.proofs.laws.waits_in_order.Goals as goal

pub returns : goal.returns
returns c = waits_in_order
