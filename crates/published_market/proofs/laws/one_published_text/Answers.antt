use Rattle.published_market.proofs.OnePublications.{one_text}
use Rattle.published_market.proofs.laws.one_published_text.Goals as goal

pub returns : goal.returns
returns c = one_text c.one_is_found.ensures c.one_aftermarket.ensures
