use Rattle.std.proofs.Common.{◌≡◌, map}
use Rattle.timetable_rules.specs.Meetings.{meetings_of}
use Rattle.timetable_rules.specs.Spelling.{spelling}
use Rattle.timetable_rules.proofs.reading.read_meetings.Given as goal

abbrev pub invariant-loop-piece : goal.invariant-loop-piece
invariant-loop-piece l =
    (goal.iterator-loop-piece).can_next l.piece-iterator ×
    (goal.iterator-loop-piece).is_finite l.piece-iterator ×
    (map (λ x. x.now) l.yielded ≡ map spelling (meetings_of l.meetings))
