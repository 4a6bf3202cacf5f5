use Rattle.timetable_rules.proofs.Relations.{share_part-relation}
use Rattle.timetable_rules.proofs.laws.shared_part_test_is_relation.Goals as goal

pub returns : goal.returns
returns c = share_part-relation
