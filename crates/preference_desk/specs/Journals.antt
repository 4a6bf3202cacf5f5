-- Journals: lists of entries, which tell what every session said and what the desk replied.
use Rattle.std.specs.Prelude.{ℕ, ◌≡◌, ◌+◌, ◌<◌, ◌≤◌, List, [], ◌∷◌, length, map, replicate, All, slice_index_or, ⊤}
use Rattle.market_units.specs.Merges.{part_of}
use Rattle.utility_language.specs.declared.commands.Command.{Command}
use Rattle.preference_desk.specs.declared.entry.Entry.{Entry}
use Rattle.preference_desk.specs.DeskNames.{DeskNames}
use Rattle.preference_desk.specs.DeskStep.{DeskState, open_state, reply_to, state_after}
use Rattle.preference_desk.specs.StudentPreferences.{StudentPreferences, no_preferences}

-- the state in which a desk opens: nobody wants anything, and it is not closed
abbrev pub opening : DeskNames → DeskState
opening names = open_state (replicate (length names.students) no_preferences)

-- the state after the commands of these entries
abbrev pub state_after_all : DeskNames → DeskState → List Entry → DeskState
state_after_all names state [] = state
state_after_all names state (entry ∷ more) =
    state_after_all names (state_after names state entry.command) more

-- each reply is the desk's in the state after the entries before it
abbrev pub IsLegalFrom : DeskNames → DeskState → List Entry → Type 0
IsLegalFrom names state [] = ⊤
IsLegalFrom names state (entry ∷ more) =
    (entry.reply ≡ reply_to names state entry.command)
    × IsLegalFrom names (state_after names state entry.command) more

abbrev pub IsLegalJournal : DeskNames → List Entry → Type 0
IsLegalJournal names entries = IsLegalFrom names (opening names) entries

-- the preferences after the whole journal, student by student
abbrev pub closed_preferences : DeskNames → List Entry → List StudentPreferences
closed_preferences names entries = (state_after_all names (opening names) entries).preferences

-- the session of each entry
abbrev pub sessions_of : List Entry → List ℕ
sessions_of entries = map (λ (entry : Entry). entry.session) entries

-- the commands of a session, in the order of their entries
abbrev pub commands_of_session : ℕ → List Entry → List Command
commands_of_session session entries =
    map (λ (entry : Entry). entry.command)
    (part_of (λ (entry : Entry). entry.session) session entries)

-- every entry is of a given session, numbered from 1, and the commands of each are its whole stream
pub record MergesStreams (streams : List (List Command)) (entries : List Entry) : Type 0 where
  pub given : All (λ (entry : Entry). (1 ≤ entry.session) × (entry.session ≤ length streams))
      entries
  pub whole : (k : ℕ) → k < length streams
      → commands_of_session (k + 1) entries ≡ slice_index_or streams k []
