use Rattle.market_certificate.proofs.OneText.{one_publication}
use Rattle.market_certificate.proofs.laws.one_publication_a_text.Goals as goal

pub returns : goal.returns
returns c = one_publication
