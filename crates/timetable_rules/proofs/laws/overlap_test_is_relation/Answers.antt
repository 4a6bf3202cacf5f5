use Rattle.timetable_rules.proofs.Relations.{some_overlap-relation}
use Rattle.timetable_rules.proofs.laws.overlap_test_is_relation.Goals as goal

pub returns : goal.returns
returns c = some_overlap-relation
