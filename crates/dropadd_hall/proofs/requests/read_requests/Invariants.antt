use Rattle.std.proofs.Common.{ℕ, ◌≡◌, ◌≤◌, ◌++◌, List, length, vec_len}
use Rattle.std.specs.List.{AllZip}
use Rattle.utility_language.specs.Commands.{command_lines}
use Rattle.dropadd_hall.specs.Requests.{IsRequestOf}
use Rattle.dropadd_hall.proofs.requests.read_requests.Given as goal

-- the lines that were read, and their requests
abbrev pub invariant-loop-rest : goal.invariant-loop-rest
invariant-loop-rest l =
    (vec_len l.requests ≤ l.room)
    × ((read : List (List (List ℕ))) × (command_lines l.bytes ≡ read ++ command_lines l.rest) × AllZip IsRequestOf read l.requests.items)

abbrev pub decreases-loop-rest : goal.decreases-loop-rest
decreases-loop-rest l = length l.rest
