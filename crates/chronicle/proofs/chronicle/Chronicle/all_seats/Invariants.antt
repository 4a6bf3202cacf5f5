use Rattle.std.proofs.Common.{◌≡◌, ◌+◌, ◌≤◌, take, length}
use Rattle.std.specs.Vec.{vec_capacity}
use Rattle.chronicle.specs.Seats.{new_seats, IsDealing}
use Rattle.chronicle.specs.Views.{rest_of}
use Rattle.chronicle.proofs.chronicle.Chronicle.all_seats.Given as goal

-- the seats below the number, but the first, are made
abbrev pub invariant-loop-number : goal.invariant-loop-number
invariant-loop-number g l =
    (l.first.table_id ≡ l.self.table) × IsDealing l.self l.number l.first.me
    × (l.seats.items ≡ new_seats l.self 1 (rest_of (take l.number l.self.allotments)))
    × (1 ≤ l.number) × (length l.seats.items + 1 ≡ l.number) × (vec_capacity l.seats ≡ l.count)
