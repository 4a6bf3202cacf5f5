use Rattle.std.proofs.Common.{◌≡◌, map, take}
use Rattle.course_catalog.proofs.catalog.seats_of.Given as goal

abbrev pub invariant-loop-row : goal.invariant-loop-row
invariant-loop-row l = l.seats.items ≡ map (λ section. section.seats) (take l.row-index l.rows)
