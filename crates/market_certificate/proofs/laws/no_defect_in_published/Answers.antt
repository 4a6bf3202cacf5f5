use Rattle.market_certificate.proofs.Defects.{no_defect}
use Rattle.market_certificate.proofs.laws.no_defect_in_published.Goals as goal

pub returns : goal.returns
returns c = no_defect
