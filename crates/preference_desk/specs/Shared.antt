-- The desk as an object that sessions share: its steps, and what a history of them says.
use Rattle.std.specs.Prelude.{ℕ, ◌≡◌, ◌+◌, ◌++◌, Bool, true, List, [], ◌∷◌, map}
use Rattle.chronicle.specs.declared.journal.StepOf.{StepOf}
use Rattle.chronicle.specs.History.{IsLegal, state_after as state_after_steps}
use Rattle.utility_language.specs.declared.commands.Command.{Command}
use Rattle.preference_desk.specs.declared.entry.Entry.{Entry}
use Rattle.preference_desk.specs.declared.reply.Reply.{Reply}
use Rattle.preference_desk.specs.declared.shared.Known.{Known}
use Rattle.preference_desk.specs.declared.shared.Told.{Told}
use Rattle.preference_desk.specs.DeskStep.{reply_to, state_after}
use Rattle.preference_desk.specs.Entries.{entry_of}
use Rattle.preference_desk.specs.Journals.{IsLegalFrom, state_after_all}

-- every command may be posted
abbrev pub is_sound : Known → Command → Bool
is_sound known command = true

-- the reply to a seat's command
abbrev pub told_reply : Known → Told → ℕ → Command → Reply
told_reply known told seat command = reply_to known.names told.state command

-- the state after it, with its entry: seat n is session n + 1
abbrev pub told_after : Known → Told → ℕ → Command → Told
told_after known told seat command = record {
  state = state_after known.names told.state command;
  entries = told.entries ++ entry_of (seat + 1) command (told_reply known told seat command) ∷ [];
}

-- a step as an entry
abbrev pub entry_of_step : StepOf Command Reply → Entry
entry_of_step step = entry_of (step.seat + 1) step.request step.reply

-- what a history told of the desk: its steps are the new entries, a legal journal from the state
-- before them, and the state is the one after them
pub record TellsSteps (known : Known) (old new : Told)
    (history : List (StepOf Command Reply)) : Type 0 where
  pub entries : new.entries ≡ old.entries ++ map entry_of_step history
  pub state : new.state ≡ state_after_all known.names old.state (map entry_of_step history)
  pub legal : IsLegalFrom known.names old.state (map entry_of_step history)

-- a legal history tells its steps
abbrev pub StepsAreEntriesLaw : Type 0
StepsAreEntriesLaw =
    (known : Known) (told : Told) (history : List (StepOf Command Reply))
    → IsLegal is_sound told_after told_reply known told history
    → TellsSteps known told (state_after_steps told_after known told history) history
