use Rattle.timetable_rules.proofs.Guesses.{one_list}
use Rattle.timetable_rules.proofs.laws.one_reading.Goals as goal

pub returns : goal.returns
returns c = one_list
