use Rattle.aftermarket_stage.proofs.Passing.{stays_within_seats}
use Rattle.aftermarket_stage.proofs.laws.stays_within_seats.Goals as goal

pub returns : goal.returns
returns c = stays_within_seats
