-- Whom each student envies.
use Rattle.std.specs.Prelude.{ℕ, ℤ, ◌==◌, ◌&&◌, Bool, not, nat_le, nat_lt, if◌then◌else◌, is_none, option_map, Option, Some, None, List, map}
use Rattle.std.specs.List.{count_by, find}
use Rattle.bundle_rules.specs.Menus.{MenuData, worth}
use Rattle.fairness_audit.specs.Allocations.{Allocation, budget_at, bundle_at, menu_at, students}
use Rattle.fairness_audit.specs.Envy.{ended_by, is_more, seen}

-- what the student's own bundle is worth to it
abbrev pub own_worth : Allocation → ℕ → ℤ
own_worth a i = worth (menu_at a i) (bundle_at a i)

-- the student envies a different one: it sees in that one's bundle what is worth more to it than
-- its own bundle
abbrev pub envies : Allocation → ℕ → ℕ → Bool
envies a i j = not (j == i) && is_more (menu_at a i) (own_worth a i) (bundle_at a j)

-- the lowest section but for which that envy ends
abbrev pub ends_but_for : Allocation → ℕ → ℕ → Option ℕ
ends_but_for a i j = ended_by (menu_at a i) (own_worth a i) (bundle_at a j)

-- it envies one whose unraised budget is at most its own
abbrev pub has_lower_envy : Allocation → ℕ → ℕ → Bool
has_lower_envy a i j = envies a i j && nat_le (budget_at a j) (budget_at a i)

-- it envies one whose unraised budget is greater
abbrev pub has_higher_envy : Allocation → ℕ → ℕ → Bool
has_higher_envy a i j = envies a i j && nat_lt (budget_at a i) (budget_at a j)

-- its envy ends but for no section: it is beyond one
abbrev pub has_envy_beyond_one : Allocation → ℕ → ℕ → Bool
has_envy_beyond_one a i j = envies a i j && is_none (ends_but_for a i j)

-- an envied student, what is seen in its bundle, and the lowest section but for which the envy ends
pub record SeenData : Type 0 where
  pub student : ℕ
  pub bundle : List ℕ
  pub without : Option ℕ

-- how many students are envied with lower and with higher envy, how many of either kind with envy
-- beyond one, and the first envied student
pub record RowData : Type 0 where
  pub lower : ℕ
  pub higher : ℕ
  pub beyond : ℕ
  pub first : Option SeenData

-- what a student to whom its own bundle is worth so much sees in the bundle of student j, if that
-- is worth more
abbrev pub envied : MenuData → ℤ → ℕ → List ℕ → Option SeenData
envied menu own j bundle =
    if is_more menu own bundle
    then Some (record { student = j; bundle = seen menu bundle; without = ended_by menu own bundle })
    else None

-- what a student sees in the bundle of another
abbrev pub sight : Allocation → ℕ → ℕ → SeenData
sight a i j =
    record {
      student = j;
      bundle = seen (menu_at a i) (bundle_at a j);
      without = ends_but_for a i j;
    }

-- the row of a student over these others
abbrev pub row_over : Allocation → ℕ → List ℕ → RowData
row_over a i others = record {
  lower = count_by (has_lower_envy a i) others;
  higher = count_by (has_higher_envy a i) others;
  beyond = count_by (has_envy_beyond_one a i) others;
  first = option_map (sight a i) (find (envies a i) others);
}

-- the row of a student
abbrev pub row : Allocation → ℕ → RowData
row a i = row_over a i (students a)

-- the rows of all students, in file order
abbrev pub rows : Allocation → List RowData
rows a = map (row a) (students a)
