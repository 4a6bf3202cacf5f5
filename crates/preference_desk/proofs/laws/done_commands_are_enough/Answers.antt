use Rattle.preference_desk.proofs.Refusals.{done_commands_are_enough}
use Rattle.preference_desk.proofs.laws.done_commands_are_enough.Goals as goal

pub returns : goal.returns
returns c = done_commands_are_enough
