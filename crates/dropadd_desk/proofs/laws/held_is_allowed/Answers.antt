use Rattle.dropadd_desk.proofs.Fitting.{held_is_allowed}
use Rattle.dropadd_desk.proofs.laws.held_is_allowed.Goals as goal

pub returns : goal.returns
returns c = held_is_allowed
