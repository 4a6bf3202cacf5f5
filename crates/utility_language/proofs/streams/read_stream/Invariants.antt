use Rattle.std.proofs.Common.{ℕ, ◌≡◌, ◌≤◌, ◌++◌, List, length, vec_len}
use Rattle.std.specs.List.{AllZip}
use Rattle.utility_language.specs.Commands.{IsCommandOf, command_lines}
use Rattle.utility_language.proofs.streams.read_stream.Given as goal

-- the lines that were read, and their commands
abbrev pub invariant-loop-rest : goal.invariant-loop-rest
invariant-loop-rest l =
    (vec_len l.commands ≤ l.room)
    × ((read : List (List (List ℕ))) × (command_lines l.bytes ≡ read ++ command_lines l.rest) × AllZip IsCommandOf read l.commands.items)

abbrev pub decreases-loop-rest : goal.decreases-loop-rest
decreases-loop-rest l = length l.rest
