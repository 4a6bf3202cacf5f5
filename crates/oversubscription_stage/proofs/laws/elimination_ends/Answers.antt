use Rattle.oversubscription_stage.proofs.Eliminations.{elimination_ends}
use Rattle.oversubscription_stage.proofs.laws.elimination_ends.Goals as goal

pub returns : goal.returns
returns c = elimination_ends
