use Rattle.preference_desk.proofs.Refusals.{refused_commands_change_nothing}
use Rattle.preference_desk.proofs.laws.refused_commands_change_nothing.Goals as goal

pub returns : goal.returns
returns c = refused_commands_change_nothing
