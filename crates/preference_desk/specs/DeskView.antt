-- What the desk is seen as.
use Rattle.std.specs.Prelude.{ℕ, ◌-◌, List}
use Rattle.std.specs.Vec.{vec_len}
use Rattle.preference_desk.specs.declared.desk.Desk.{Desk}
use Rattle.preference_desk.specs.declared.entry.Entry.{Entry}
use Rattle.preference_desk.specs.DeskNames.{DeskNames}
use Rattle.preference_desk.specs.DeskStep.{DeskState}
use Rattle.preference_desk.specs.NamesView.{names_in}
use Rattle.preference_desk.specs.PreferencesView.{preferences_of}

-- the names that it knows
abbrev pub names_of : Desk → DeskNames
names_of desk = names_in desk.names

-- what the students want, and whether it is closed
abbrev pub state_of : Desk → DeskState
state_of desk = record { preferences = preferences_of desk.preferences; closed = desk.closed }

-- its journal
abbrev pub entries_of : Desk → List Entry
entries_of desk = desk.journal.items

-- how many commands can still be posted
abbrev pub commands_left : Desk → ℕ
commands_left desk = desk.lines - vec_len desk.journal
