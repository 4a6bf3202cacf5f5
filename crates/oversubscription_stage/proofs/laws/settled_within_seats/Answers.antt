use Rattle.oversubscription_stage.proofs.Eliminations.{settled_within_seats}
use Rattle.oversubscription_stage.proofs.laws.settled_within_seats.Goals as goal

pub returns : goal.returns
returns c = settled_within_seats
