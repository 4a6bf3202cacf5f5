use Rattle.timetable_rules.proofs.PartsText.{parts_spelled-relation}
use Rattle.timetable_rules.proofs.laws.parts_spelled_is_spelling.Goals as goal

pub returns : goal.returns
returns c = parts_spelled-relation
