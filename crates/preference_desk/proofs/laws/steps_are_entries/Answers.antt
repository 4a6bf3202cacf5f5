use Rattle.preference_desk.proofs.SharedLemmas.{steps_are_entries_law}
use Rattle.preference_desk.proofs.laws.steps_are_entries.Goals as goal

pub returns : goal.returns
returns c = steps_are_entries_law
