use Rattle.explain_desk.proofs.Telling.{one_explanation}
use Rattle.explain_desk.proofs.laws.one_explanation.Goals as goal

pub returns : goal.returns
returns c = one_explanation
