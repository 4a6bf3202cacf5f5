use Rattle.explain_desk.proofs.OneReasons.{one_reason}
use Rattle.explain_desk.proofs.laws.one_reason.Goals as goal

pub returns : goal.returns
returns c = one_reason
