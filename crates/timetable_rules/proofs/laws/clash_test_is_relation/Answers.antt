use Rattle.timetable_rules.proofs.Relations.{clashes-relation}
use Rattle.timetable_rules.proofs.laws.clash_test_is_relation.Goals as goal

pub returns : goal.returns
returns c = clashes-relation
