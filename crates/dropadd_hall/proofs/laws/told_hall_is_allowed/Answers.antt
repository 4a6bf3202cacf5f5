use Rattle.dropadd_hall.proofs.Finals.{told_allowed}
use Rattle.dropadd_hall.proofs.laws.told_hall_is_allowed.Goals as goal

pub returns : goal.returns
returns c = told_allowed
