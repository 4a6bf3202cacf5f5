-- What the desk notes of each command.
use Rattle.std.specs.Prelude.{ℕ}
use Rattle.utility_language.specs.declared.commands.Command.{Command}
use Rattle.preference_desk.specs.declared.reply.Reply.{Reply}
use Rattle.preference_desk.specs.declared.entry.Entry.{Entry}

-- the entry of a session's command and its reply
abbrev pub entry_of : ℕ → Command → Reply → Entry
entry_of session command reply = record { session = session; command = command; reply = reply }
