use Rattle.published_market.proofs.Sentences.{allocation_within_seats}
use Rattle.published_market.proofs.laws.allocation_within_seats.Goals as goal

pub returns : goal.returns
returns c = allocation_within_seats c.stays_within_seats.ensures
