-- The days on which meetings are.
use Rattle.std.specs.Prelude.{ℕ, ◌≡◌, List, All}
use Rattle.std.specs.Int.{bit_at}
use Rattle.timetable_rules.specs.declared.meeting.Meeting.{Meeting}

-- the word has the bit of each meeting's day
abbrev pub AreOnDays : ℕ → List Meeting → Type 0
AreOnDays days meetings = All (λ m. bit_at days m.day ≡ 1) meetings
