use Rattle.accepted_publications.proofs.Accepting.{published_is_accepted}
use Rattle.accepted_publications.proofs.laws.published_is_accepted.Goals as goal

pub returns : goal.returns
returns c = published_is_accepted
