-- One weekly meeting.
use Rattle.std.specs.Prelude.{◌<◌, Bool, ◌&&◌, nat_lt}
use Rattle.timetable_rules.specs.declared.meeting.Meeting.{Meeting}

-- on a day of the week, with its start before its end, which is on the same day
pub record IsMeeting (m : Meeting) : Type 0 where
  pub weekday : m.day < 7
  pub in_order : m.start < m.end
  pub same_day : m.end < 1440

-- the same as a test
abbrev pub is_meeting : Meeting → Bool
is_meeting m = nat_lt m.day 7 && nat_lt m.start m.end && nat_lt m.end 1440
