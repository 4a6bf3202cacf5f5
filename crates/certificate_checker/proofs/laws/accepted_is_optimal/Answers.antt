use Rattle.certificate_checker.proofs.Optimal.{accepted_is_optimal}
use Rattle.certificate_checker.proofs.laws.accepted_is_optimal.Goals as goal

pub returns : goal.returns
returns c = accepted_is_optimal
