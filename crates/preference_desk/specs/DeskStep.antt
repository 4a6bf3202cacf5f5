-- One step of the desk: the reply to a command, and the state after it.
use Rattle.std.specs.Prelude.{ℕ, pos, Bool, true, false, not, ◌&&◌, List, [], ◌∷◌, if◌then◌else◌, nat_lt, nat_le, int_le, slice_index_or, slice_set, unsigned_abs}
use Rattle.std.specs.FinMap.{contains_key, len}
use Rattle.std.specs.Str.{bytes_eq}
use Rattle.market_units.specs.declared.limits.TheConstants.{MAX_ADJUSTMENT, MAX_PAIRS, MAX_RATING, MAX_RATINGS}
use Rattle.market_units.specs.Name.{name_bytes}
use Rattle.utility_language.specs.declared.commands.Command.{Command}
use Rattle.utility_language.specs.declared.commands.Command.TheVariants.{Rate, Pair, Clear, Close, Unreadable}
use Rattle.preference_desk.specs.declared.reply.Reply.{Reply}
use Rattle.preference_desk.specs.declared.reply.Reply.TheVariants as reply
use Rattle.preference_desk.specs.DeskNames.{DeskNames, has_name, ordinal_of}
use Rattle.preference_desk.specs.StudentPreferences.{StudentPreferences, no_preferences, with_rating, pair_of, with_pair}

-- what each student of the roll wants, in file order, and whether the desk is closed
pub record DeskState : Type 0 where
  pub preferences : List StudentPreferences
  pub closed : Bool

abbrev pub state_in : List StudentPreferences → Bool → DeskState
state_in preferences closed = record { preferences = preferences; closed = closed }

-- a state in which the desk is not closed
abbrev pub open_state : List StudentPreferences → DeskState
open_state preferences = state_in preferences false

abbrev pub preferences_at : DeskState → ℕ → StudentPreferences
preferences_at state student = slice_index_or state.preferences student no_preferences

-- the line was no command of the language
abbrev pub is_unreadable : Command → Bool
is_unreadable Unreadable = true
is_unreadable _ = false

-- the student that is named is not on the roll
abbrev pub names_no_student : DeskNames → Command → Bool
names_no_student names (Rate student section n) = not (has_name names.students student)
names_no_student names (Pair student first second n) = not (has_name names.students student)
names_no_student names (Clear student) = not (has_name names.students student)
names_no_student names Close = false
names_no_student names Unreadable = false

-- a section that is named is not in the catalogue
abbrev pub names_no_section : DeskNames → Command → Bool
names_no_section names (Rate student section n) = not (has_name names.sections section)
names_no_section names (Pair student first second n) =
    not (has_name names.sections first && has_name names.sections second)
names_no_section names (Clear student) = false
names_no_section names Close = false
names_no_section names Unreadable = false

-- the two sections of a pair are the same
abbrev pub pairs_with_itself : Command → Bool
pairs_with_itself (Rate student section n) = false
pairs_with_itself (Pair student first second n) = bytes_eq (name_bytes first) (name_bytes second)
pairs_with_itself (Clear student) = false
pairs_with_itself Close = false
pairs_with_itself Unreadable = false

-- a rating is not from 0 to 100, an adjustment not from -200 to 200
abbrev pub is_out_of_range : Command → Bool
is_out_of_range (Rate student section n) = not (int_le (pos 0) n && int_le n (pos MAX_RATING))
is_out_of_range (Pair student first second n) =
    nat_lt (unsigned_abs MAX_ADJUSTMENT) (unsigned_abs n)
is_out_of_range (Clear student) = false
is_out_of_range Close = false
is_out_of_range Unreadable = false

-- a rating above 0 for a section that is not yet rated, where 60 are rated
abbrev pub has_no_room_to_rate : StudentPreferences → ℕ → ℕ → Bool
has_no_room_to_rate preferences section rating =
    nat_lt 0 rating && not (contains_key preferences.ratings section)
    && nat_le MAX_RATINGS (len preferences.ratings)

-- an adjustment other than 0 for a new pair, where there are 200
abbrev pub has_no_room_to_pair : StudentPreferences → ℕ × ℕ → ℕ → Bool
has_no_room_to_pair preferences pair size =
    nat_lt 0 size && not (contains_key preferences.pairs pair)
    && nat_le MAX_PAIRS (len preferences.pairs)

abbrev pub is_too_many : DeskNames → DeskState → Command → Bool
is_too_many names state (Rate student section n) =
    has_no_room_to_rate (preferences_at state (ordinal_of names.students student))
    (ordinal_of names.sections section) (unsigned_abs n)
is_too_many names state (Pair student first second n) =
    has_no_room_to_pair (preferences_at state (ordinal_of names.students student))
    (pair_of (ordinal_of names.sections first) (ordinal_of names.sections second))
    (unsigned_abs n)
is_too_many names state (Clear student) = false
is_too_many names state Close = false
is_too_many names state Unreadable = false

-- the first reply whose cause stands, and `Done` where none does
abbrev pub first_reply : List (Bool × Reply) → Reply
first_reply [] = reply.Done
first_reply ((stands, answer) ∷ more) = if stands then answer else first_reply more

-- the reply to a command
abbrev pub reply_to : DeskNames → DeskState → Command → Reply
reply_to names state command = first_reply (
    (is_unreadable command, reply.Unreadable)
    ∷ (state.closed, reply.Closed)
    ∷ (names_no_student names command, reply.NoStudent)
    ∷ (names_no_section names command, reply.NoSection)
    ∷ (pairs_with_itself command, reply.SamePair)
    ∷ (is_out_of_range command, reply.OutOfRange)
    ∷ (is_too_many names state command, reply.TooMany)
    ∷ [])

-- the state with other preferences of one student
abbrev pub with_preferences : DeskState → ℕ → StudentPreferences → DeskState
with_preferences state student new =
    record { preferences = slice_set state.preferences student new; closed = state.closed }

-- the state that a command makes where its reply is `Done`
abbrev pub changed : DeskNames → DeskState → Command → DeskState
changed names state (Rate student section n) =
    let at = ordinal_of names.students student in
    let old = preferences_at state at in
    with_preferences state at
    (record {
      ratings = with_rating old.ratings (ordinal_of names.sections section)
          (unsigned_abs n);
      pairs = old.pairs;
    })
changed names state (Pair student first second n) =
    let at = ordinal_of names.students student in
    let old = preferences_at state at in
    with_preferences state at
    (record {
      ratings = old.ratings;
      pairs = with_pair old.pairs
          (pair_of (ordinal_of names.sections first) (ordinal_of names.sections second)) n;
    })
changed names state (Clear student) =
    with_preferences state (ordinal_of names.students student) no_preferences
changed names state Close = record { preferences = state.preferences; closed = true }
changed names state Unreadable = state

abbrev pub is_done : Reply → Bool
is_done reply.Done = true
is_done _ = false

-- the state after a command: a reply other than `Done` leaves it as it was
abbrev pub state_after : DeskNames → DeskState → Command → DeskState
state_after names state command =
    if is_done (reply_to names state command) then changed names state command else state
