use Rattle.std.proofs.Common.{◌≡◌, length}
use Rattle.published_market.proofs.rooms.reserve_rooms.Given as goal

abbrev pub invariant-loop : goal.invariant-loop
invariant-loop l = length l.rooms.items ≡ l.counter
