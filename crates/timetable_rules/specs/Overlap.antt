-- Meetings that overlap.
use Rattle.std.specs.Prelude.{◌≡◌, ◌<◌, Bool, ◌&&◌, ◌==◌, List, Any, nat_lt}
use Rattle.std.specs.List.{list_any}
use Rattle.timetable_rules.specs.declared.meeting.Meeting.{Meeting}

-- on the same day, and each starts before the other ends
pub record Overlap (m n : Meeting) : Type 0 where
  pub same_day : m.day ≡ n.day
  pub first_starts : m.start < n.end
  pub second_starts : n.start < m.end

-- a meeting of the one overlaps a meeting of the other
abbrev pub SomeOverlap : List Meeting → List Meeting → Type 0
SomeOverlap ones others = Any (λ m. Any (λ n. Overlap m n) others) ones

-- the same as tests, for definitions that compute
abbrev pub overlaps : Meeting → Meeting → Bool
overlaps m n = m.day == n.day && nat_lt m.start n.end && nat_lt n.start m.end

abbrev pub some_overlap : List Meeting → List Meeting → Bool
some_overlap ones others = list_any (λ m. list_any (overlaps m) others) ones
