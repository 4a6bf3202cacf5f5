use Rattle.std.proofs.Common.{◌≡◌, take}
use Rattle.std.specs.List.{zip}
use Rattle.published_market.proofs.seats.used_seats.Given as goal

abbrev pub invariant-sections : goal.invariant-sections
invariant-sections l = l.all.items ≡ zip (take l.place l.used) (take l.place l.seats)
