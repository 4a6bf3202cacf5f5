use Rattle.timetable_rules.proofs.Guesses.{spelled-relation}
use Rattle.timetable_rules.proofs.laws.spelled_is_spelling.Goals as goal

pub returns : goal.returns
returns c = spelled-relation
