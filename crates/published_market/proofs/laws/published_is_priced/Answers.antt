use Rattle.published_market.proofs.OnePublications.{published_is_priced}
use Rattle.published_market.proofs.laws.published_is_priced.Goals as goal

pub returns : goal.returns
returns c = published_is_priced c.not_both_are_searched.ensures
