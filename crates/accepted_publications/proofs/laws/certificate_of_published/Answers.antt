use Rattle.accepted_publications.proofs.Accepting.{certificate_holds}
use Rattle.accepted_publications.proofs.laws.certificate_of_published.Goals as goal

pub returns : goal.returns
returns c = certificate_holds
