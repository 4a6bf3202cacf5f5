use Rattle.std.proofs.Common.{◌≡◌, ◌++◌, List, length}
use Rattle.chronicle.specs.Seats.{HasJoined}
use Rattle.chronicle.proofs.chronicle.Chronicle.gather.Given as goal

-- what is no longer in the list was joined
abbrev pub invariant-seats : goal.invariant-seats
invariant-seats g l =
    (l.keeper.table_id ≡ l.self.table)
    × ((taken : List _) × (l.fn.seats.items ≡ l.seats.items ++ taken) × HasJoined l.self taken l.keeper.me)

abbrev pub decreases-seats : goal.decreases-seats
decreases-seats g l = length l.seats.items
