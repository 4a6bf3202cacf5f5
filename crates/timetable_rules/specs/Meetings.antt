-- What the type of meetings shows.
use Rattle.std.specs.Prelude.{List, take}
use Rattle.timetable_rules.specs.declared.meeting.Meeting.{Meeting}
use Rattle.timetable_rules.specs.declared.meetings.Meetings.{Meetings}

-- the meetings, in the order in which they are written
abbrev pub meetings_of : Meetings → List Meeting
meetings_of meetings = take meetings.len meetings.places
