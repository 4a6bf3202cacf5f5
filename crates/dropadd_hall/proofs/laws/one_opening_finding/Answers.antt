use Rattle.dropadd_hall.proofs.Exactly.{one_finding}
use Rattle.dropadd_hall.proofs.laws.one_opening_finding.Goals as goal

pub returns : goal.returns
returns c = one_finding
