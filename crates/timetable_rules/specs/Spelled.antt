-- What a text spells, as a function, for definitions that compute. Meetings are guessed from the
-- places of a text, and then the text must be their spelling: so how they are guessed tells nothing
-- of what is spelled.
use Rattle.std.specs.Prelude.{ℕ, ◌+◌, ◌-◌, ◌*◌, Bool, ◌&&◌, ◌==◌, if◌then◌else◌, Option, Some, None, List, [], ◌∷◌, codes, length, map, nat_le, slice_index}
use Rattle.std.specs.List.{join_with_byte, list_all, position_or_len, slice_split}
use Rattle.std.specs.Str.{bytes_eq}
use Rattle.market_units.specs.declared.limits.TheConstants.{MAX_MEETINGS}
use Rattle.timetable_rules.specs.declared.meeting.Meeting.{Meeting}
use Rattle.timetable_rules.specs.Meeting.{is_meeting}
use Rattle.timetable_rules.specs.Spelling.{spelling}

-- the minute of the day that four digits from a place on may mean
abbrev pub guessed_minute : List ℕ → ℕ → ℕ
guessed_minute text k =
    let digit = λ (n : ℕ). slice_index text n - 48 in
    (digit k * 10 + digit (k + 1)) * 60 + (digit (k + 2) * 10 + digit (k + 3))

-- the meeting that a text may mean
abbrev pub guessed_meeting : List ℕ → Meeting
guessed_meeting text = record {
  day = position_or_len (λ letter. letter == slice_index text 0) (codes "MTWRFSU");
  start = guessed_minute text 1;
  end = guessed_minute text 6;
}

-- the meetings that a text may mean
abbrev pub guessed : List ℕ → List Meeting
guessed [] = []
guessed (b ∷ bs) = map guessed_meeting (slice_split (λ c. c == 59) (b ∷ bs))

-- whether a text spells these meetings
abbrev pub spells : List ℕ → List Meeting → Bool
spells text meetings =
    nat_le (length meetings) MAX_MEETINGS && list_all is_meeting meetings
    && bytes_eq text (join_with_byte 59 (map spelling meetings))

-- the meetings that a text spells, if it spells any
abbrev pub spelled : List ℕ → Option (List Meeting)
spelled text = if spells text (guessed text) then Some (guessed text) else None
