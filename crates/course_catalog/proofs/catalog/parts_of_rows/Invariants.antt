use Rattle.std.proofs.Common.{◌≡◌, map, take}
use Rattle.course_catalog.proofs.catalog.parts_of_rows.Given as goal

abbrev pub invariant-loop-row : goal.invariant-loop-row
invariant-loop-row l = l.all.items ≡ map (λ section. section.parts) (take l.row-index l.rows)
