-- A crowd with what each student has.
use Rattle.std.specs.Prelude.{ℕ, ◌≡◌, ◌<◌, List, [], length, map, slice_index_or}
use Rattle.std.specs.List.{range_with_len}
use Rattle.bundle_rules.specs.Bundles.{sections_of}
use Rattle.bundle_rules.specs.Menus.{MenuData, wishes_of}
use Rattle.bundle_rules.specs.Wishes.{IsFeasible}
use Rattle.bundle_rules.specs.declared.bundle.Bundle.{Bundle}
use Rattle.demand_api.specs.Crowds.{CrowdData, Student}
use Rattle.demand_api.specs.declared.crowd.Crowd.{Crowd}
use Rattle.demand_api.specs.Views.{data_of}
use Rattle.published_parts.specs.Offers.{student_in}

-- a crowd, and the bundle of each student in file order
pub record Allocation : Type 0 where
  pub crowd : CrowdData
  pub bundles : List (List ℕ)

-- the student of a number; a number that no student has stands for one that wants nothing and has a
-- budget of 0
abbrev pub student_at : Allocation → ℕ → Student
student_at a i = student_in a.crowd i

-- its menu, its unraised budget, its bundle
abbrev pub menu_at : Allocation → ℕ → MenuData
menu_at a i = (student_at a i).menu

abbrev pub budget_at : Allocation → ℕ → ℕ
budget_at a i = (student_at a i).budget

abbrev pub bundle_at : Allocation → ℕ → List ℕ
bundle_at a i = slice_index_or a.bundles i []

-- how many students there are, and their numbers
abbrev pub student_count : Allocation → ℕ
student_count a = length a.crowd.students

abbrev pub students : Allocation → List ℕ
students a = range_with_len 0 (student_count a)

-- one bundle for each student, which it may take
pub record IsAllocation (a : Allocation) : Type 0 where
  pub each : length a.bundles ≡ student_count a
  pub feasible : (i : ℕ) → i < student_count a
      → IsFeasible (wishes_of (menu_at a i)) (bundle_at a i)

-- the allocation of these bundles to this crowd
abbrev pub allocation_of : Crowd → List Bundle → Allocation
allocation_of crowd bundles =
    record {
      crowd = data_of crowd;
      bundles = map sections_of bundles;
    }
