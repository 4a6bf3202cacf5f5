use Rattle.timetable_rules.proofs.Relations.{clashes_mutual}
use Rattle.timetable_rules.proofs.laws.clashes_are_mutual.Goals as goal

pub returns : goal.returns
returns c = clashes_mutual
