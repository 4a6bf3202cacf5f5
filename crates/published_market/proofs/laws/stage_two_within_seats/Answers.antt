use Rattle.published_market.proofs.Sentences.{stage_two_within_seats}
use Rattle.published_market.proofs.laws.stage_two_within_seats.Goals as goal

pub returns : goal.returns
returns c = stage_two_within_seats
