use Rattle.certificate_checker.proofs.OneFirst.{one_first}
use Rattle.certificate_checker.proofs.laws.one_first_finding.Goals as goal

pub returns : goal.returns
returns c = one_first
