-- What the sessions have to say: a list of commands each.
use Rattle.std.specs.Prelude.{ℕ, List, Vec}
use Rattle.std.proofs.Common.{Global}
use Rattle.std.specs.Vec.{vec_len}
use Rattle.market_units.specs.Totals.{total}
use Rattle.utility_language.specs.declared.commands.Command.{Command}
use Rattle.stream_posting.specs.Streams.{lists_of}

-- how many commands there are in all streams together
abbrev pub command_count : List (Vec Command Global) → ℕ
command_count streams = total vec_len streams

-- the commands of each stream
abbrev pub command_lists : List (Vec Command Global) → List (List Command)
command_lists streams = lists_of streams
