use Rattle.published_market.proofs.OnePublications.{one_least_error}
use Rattle.published_market.proofs.laws.one_least_error.Goals as goal

pub returns : goal.returns
returns c = one_least_error c.one_least_error.ensures
