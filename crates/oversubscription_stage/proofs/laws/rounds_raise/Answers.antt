use Rattle.oversubscription_stage.proofs.Raises.{round_raises}
use Rattle.oversubscription_stage.proofs.laws.rounds_raise.Goals as goal

pub returns : goal.returns
returns c = round_raises
