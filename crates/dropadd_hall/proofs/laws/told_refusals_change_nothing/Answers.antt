use Rattle.dropadd_hall.proofs.Finals.{told_refusals}
use Rattle.dropadd_hall.proofs.laws.told_refusals_change_nothing.Goals as goal

pub returns : goal.returns
returns c = told_refusals
