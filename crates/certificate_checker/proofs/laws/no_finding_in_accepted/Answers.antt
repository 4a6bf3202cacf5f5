use Rattle.certificate_checker.proofs.Refusing.{no_finding}
use Rattle.certificate_checker.proofs.laws.no_finding_in_accepted.Goals as goal

pub returns : goal.returns
returns c = no_finding
