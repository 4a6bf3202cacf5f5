use Rattle.dropadd_desk.proofs.Handing.{refusals_change_nothing}
use Rattle.dropadd_desk.proofs.laws.refusals_change_nothing.Goals as goal

pub returns : goal.returns
returns c = refusals_change_nothing
