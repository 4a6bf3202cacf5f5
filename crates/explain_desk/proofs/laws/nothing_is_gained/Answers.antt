use Rattle.explain_desk.proofs.Telling.{nothing_is_gained}
use Rattle.explain_desk.proofs.laws.nothing_is_gained.Goals as goal

pub returns : goal.returns
returns c = nothing_is_gained
