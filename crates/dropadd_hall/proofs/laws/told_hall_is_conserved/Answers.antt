use Rattle.dropadd_hall.proofs.Finals.{told_conserved}
use Rattle.dropadd_hall.proofs.laws.told_hall_is_conserved.Goals as goal

pub returns : goal.returns
returns c = told_conserved
