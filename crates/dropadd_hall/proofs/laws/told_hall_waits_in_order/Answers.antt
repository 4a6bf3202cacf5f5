use Rattle.dropadd_hall.proofs.Finals.{told_in_order}
use Rattle.dropadd_hall.proofs.laws.told_hall_waits_in_order.Goals as goal

pub returns : goal.returns
returns c = told_in_order
