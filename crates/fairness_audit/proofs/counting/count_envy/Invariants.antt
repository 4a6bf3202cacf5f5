use Rattle.std.proofs.Common.{◌≡◌}
use Rattle.std.specs.List.{range_with_len}
use Rattle.fairness_audit.specs.Allocations.{allocation_of}
use Rattle.fairness_audit.specs.Rows.{row_over}
use Rattle.fairness_audit.specs.Views.{row_of}
use Rattle.fairness_audit.proofs.counting.count_envy.Given as goal

-- the row over the others so far
abbrev pub invariant-others : goal.invariant-others
invariant-others l = row_of l.row ≡ row_over (allocation_of l.crowd l.bundles) l.fn.student.0 (range_with_len 0 l.other)
