-- The laws of refused commands: those whose reply is not `Done`.
use Rattle.std.specs.Prelude.{◌≡◌, false, List}
use Rattle.std.specs.List.{filter}
use Rattle.utility_language.specs.declared.commands.Command.{Command}
use Rattle.preference_desk.specs.declared.entry.Entry.{Entry}
use Rattle.preference_desk.specs.DeskNames.{DeskNames}
use Rattle.preference_desk.specs.DeskStep.{DeskState, is_done, reply_to, state_after}
use Rattle.preference_desk.specs.Journals.{IsLegalJournal, closed_preferences}

-- a refused command leaves the desk as it was: what each student wants, and whether it is closed
abbrev pub RefusedCommandsChangeNothing : Type 0
RefusedCommandsChangeNothing =
    (names : DeskNames) (state : DeskState) (command : Command)
    → is_done (reply_to names state command) ≡ false → state_after names state command ≡ state

-- the entries of a journal whose commands were carried out
abbrev pub done_of : List Entry → List Entry
done_of entries = filter (λ (entry : Entry). is_done entry.reply) entries

-- those that were carried out are a legal journal by themselves, and what the students want after it
-- is what they want after the whole journal
pub record TellsTheSame (names : DeskNames) (entries : List Entry) : Type 0 where
  pub legal : IsLegalJournal names (done_of entries)
  pub preferences : closed_preferences names (done_of entries) ≡ closed_preferences names entries

abbrev pub DoneCommandsAreEnough : Type 0
DoneCommandsAreEnough =
    (names : DeskNames) (entries : List Entry) → IsLegalJournal names entries
    → TellsTheSame names entries
