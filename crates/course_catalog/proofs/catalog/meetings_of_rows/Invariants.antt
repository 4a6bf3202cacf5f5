use Rattle.std.proofs.Common.{◌≡◌, map, take}
use Rattle.timetable_rules.specs.Meetings.{meetings_of}
use Rattle.course_catalog.proofs.catalog.meetings_of_rows.Given as goal

abbrev pub invariant-loop-row : goal.invariant-loop-row
invariant-loop-row l = map meetings_of l.all.items ≡ map (λ section. section.meetings) (take l.row-index l.rows)
