use Rattle.published_market.proofs.OnePublications.{one_publication}
use Rattle.published_market.proofs.laws.one_publication.Goals as goal

pub returns : goal.returns
returns c = one_publication c.one_is_found.ensures c.one_aftermarket.ensures
