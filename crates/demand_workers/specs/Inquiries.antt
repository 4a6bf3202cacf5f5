-- Whom a round with a list asks.
use Rattle.std.specs.Prelude.{None, Some, Option, List, []}
use Rattle.std.proofs.Common.{Vec, Global}
use Rattle.price_board.specs.declared.round.Round.{Round}
use Rattle.price_board.specs.declared.round.Task.{Task}

-- the tasks of this list, if there is one
abbrev pub listed_in : Option (Vec Task Global) → List Task
listed_in None = []
listed_in (Some list) = list.items

-- the tasks of a round's list
abbrev pub tasks_in : Round → List Task
tasks_in round = listed_in round.list
