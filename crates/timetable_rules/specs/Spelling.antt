-- How the meetings of a section are written.
use Rattle.std.specs.Prelude.{ℕ, ◌+◌, ◌/◌, ◌%◌, ◌≡◌, ◌≤◌, List, [], ◌∷◌, ◌++◌, All, codes, length, map, slice_index}
use Rattle.std.specs.List.{join_with_byte}
use Rattle.market_units.specs.declared.limits.TheConstants.{MAX_MEETINGS}
use Rattle.timetable_rules.specs.declared.meeting.Meeting.{Meeting}
use Rattle.timetable_rules.specs.Meeting.{IsMeeting}

-- the letter of a day: Monday to Sunday, and Thursday is R
abbrev pub day_letter : ℕ → ℕ
day_letter day = slice_index (codes "MTWRFSU") day

-- a number below 100 as two digits
abbrev pub two_digits : ℕ → List ℕ
two_digits n = (48 + n / 10) ∷ (48 + n % 10) ∷ []

-- a minute of the day as two digits of the hour and two of the minute
abbrev pub clock : ℕ → List ℕ
clock minute = two_digits (minute / 60) ++ two_digits (minute % 60)

-- a meeting: the letter of its day, its start, a dash, its end
abbrev pub spelling : Meeting → List ℕ
spelling m = day_letter m.day ∷ (clock m.start ++ 45 ∷ clock m.end)

-- The text spells these meetings: at most ten, in order, joined by semicolons. The empty text
-- spells none.
pub record Spells (text : List ℕ) (meetings : List Meeting) : Type 0 where
  pub few : length meetings ≤ MAX_MEETINGS
  pub each : All IsMeeting meetings
  pub joined : text ≡ join_with_byte 59 (map spelling meetings)
