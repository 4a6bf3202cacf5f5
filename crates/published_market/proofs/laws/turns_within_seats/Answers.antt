use Rattle.published_market.proofs.Sentences.{turns_within_seats}
use Rattle.published_market.proofs.laws.turns_within_seats.Goals as goal

pub returns : goal.returns
returns c = turns_within_seats c.stays_within_seats.ensures
