use Rattle.explain_desk.proofs.Leaving.{reasons_leave_a_bundle}
use Rattle.explain_desk.proofs.laws.reasons_leave_a_bundle.Goals as goal

pub returns : goal.returns
returns c = reasons_leave_a_bundle
