use Rattle.std.proofs.Common.{ℕ, ◌<◌}
use Rattle.bundle_rules.specs.Menus.{wishes_of}
use Rattle.bundle_rules.specs.Wishes.{IsFeasible}
use Rattle.fairness_audit.specs.Allocations.{allocation_of, bundle_at, menu_at}
use Rattle.fairness_audit.proofs.allocation.is_allocation.Given as goal

-- the students so far may take their bundles
abbrev pub invariant-students : goal.invariant-students
invariant-students l =
    (i : ℕ) → i < l.place → IsFeasible (wishes_of (menu_at (allocation_of l.crowd l.bundles) i)) (bundle_at (allocation_of l.crowd l.bundles) i)
