use Rattle.published_market.proofs.Publishable.{published_is_publication}
use Rattle.published_market.proofs.laws.published_is_publication.Goals as goal

pub returns : goal.returns
returns c = published_is_publication
