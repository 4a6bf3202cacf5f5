-- Facts of allocations that types keep: each has at most one proof.
use Rattle.std.specs.Coded.{Coded-set, coded_ℕ}
use Rattle.bundle_bounds.specs.Props.{IsFeasible-prop}
use Rattle.bundle_rules.specs.Menus.{wishes_of}
use Rattle.fairness_audit.specs.Allocations.{Allocation, IsAllocation, bundle_at, menu_at, student_count}
use Rattle.std.specs.Prelude.{length}

pub IsAllocation-prop : (a : Allocation) → IsProp (IsAllocation a)
IsAllocation-prop a p q = λ i. record {
  each = Coded-set coded_ℕ (length a.bundles) (student_count a) p.each q.each i;
  feasible = λ k low.
      IsFeasible-prop (wishes_of (menu_at a k)) (bundle_at a k) (p.feasible k low)
      (q.feasible k low) i;
}
