use Rattle.dropadd_hall.proofs.Finals.{told_first}
use Rattle.dropadd_hall.proofs.laws.told_hall_serves_the_first.Goals as goal

pub returns : goal.returns
returns c = told_first
