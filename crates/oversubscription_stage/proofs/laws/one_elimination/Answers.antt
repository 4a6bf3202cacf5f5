use Rattle.oversubscription_stage.proofs.Eliminations.{one_elimination}
use Rattle.oversubscription_stage.proofs.laws.one_elimination.Goals as goal

pub returns : goal.returns
returns c = one_elimination
