-- What a session says.
use Rattle.std.specs.Prelude.{ℕ, List, Vec, length, map}
use Rattle.std.proofs.Common.{Global}
use Rattle.std.specs.List.{AllZip}
use Rattle.utility_language.specs.declared.commands.Command.{Command}
use Rattle.utility_language.specs.Commands.{AreCommands, command_lines}
use Rattle.market_host.specs.Marks.{without_mark}

-- the text of a session: its bytes without one leading byte order mark
abbrev pub session_text : List ℕ → List ℕ
session_text bytes = without_mark bytes

-- how many commands a session has
abbrev pub command_count : List ℕ → ℕ
command_count bytes = length (command_lines (session_text bytes))

-- what each session says, line by line, where the words of a line are such an item
abbrev pub AreItems : {A : Type 0} → (List (List ℕ) → A → Type 0) → List (List ℕ) → List (List A)
    → Type 0
AreItems IsItemOf sessions streams =
    AllZip (λ session items. AllZip IsItemOf (command_lines (session_text session)) items) sessions
    streams

-- the commands of each session
abbrev pub AreStreams : List (List ℕ) → List (List Command) → Type 0
AreStreams sessions streams =
    AllZip (λ session commands. AreCommands (session_text session) commands) sessions streams

-- the same of streams that are kept as vectors
abbrev pub AreItemsOf : {A : Type 0} → (List (List ℕ) → A → Type 0) → List (List ℕ)
    → List (Vec A Global) → Type 0
AreItemsOf IsItemOf sessions streams =
    AreItems IsItemOf sessions (map (λ (stream : Vec _ Global). stream.items) streams)
