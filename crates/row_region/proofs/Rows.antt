-- Which rows are live after each call, and what they hold. `live_rows` has all that a caller's proof needs.
use Rattle.std.proofs.Common.{◌≡◌, ◌≢◌, ℕ, List, Option, Some, None, Bool, true, false, cond, refl, sym, ap, ◌∙◌, nat_cmp}
use Rattle.std.specs.Prelude.{is_some, IsSome}
use Rattle.std.specs.Ordering.{eq_by_cmp}
use Rattle.std.specs.FinMap as map
use Rattle.std.proofs.lemmas.Cmp.{nat_cmp_total}
use Rattle.std.proofs.lemmas.Bool.{false≢true}
use Rattle.row_region.proofs.Numbers.{tie_same, tie_apart}
use Rattle.row_region.proofs.Filling.{rewritten_same}

module _ {T : Type 0} where
  -- a row that was handed out or written holds what was put there
  pub row_here : (live : map.FinMap nat_cmp (List T)) (id : ℕ) (row : List T) → map.get (map.insert live id row) id ≡ Some row
  row_here live id row = map.get-insert nat_cmp_total live id row id ∙ rw (tie_same id) refl

  -- the others hold what they held
  pub row_there : (live : map.FinMap nat_cmp (List T)) (id : ℕ) (row : List T) (other : ℕ) → other ≢ id
      → map.get (map.insert live id row) other ≡ map.get live other
  row_there live id row other apart = map.get-insert nat_cmp_total live id row other ∙ rw (tie_apart other id apart) refl

  pub row_left : (live : map.FinMap nat_cmp (List T)) (id other : ℕ) → other ≢ id → map.get (map.remove live id) other ≡ map.get live other
  row_left live id other apart = map.get-remove nat_cmp_total live id other ∙ rw (tie_apart other id apart) refl

  pub live_here : (live : map.FinMap nat_cmp (List T)) (id : ℕ) (row : List T) → IsSome (map.get (map.insert live id row) id)
  live_here live id row = ap is_some (row_here live id row)

  some_or : (b : Bool) (row : List T) (o : Option (List T)) → IsSome o → IsSome (cond b (Some row) o)
  some_or true row o h = refl
  some_or false row o h = h

  -- to hand out or write a row leaves the live ones live
  pub live_there : (live : map.FinMap nat_cmp (List T)) (id : ℕ) (row : List T) (other : ℕ) → IsSome (map.get live other)
      → IsSome (map.get (map.insert live id row) other)
  live_there live id row other is =
      ap is_some (map.get-insert nat_cmp_total live id row other) ∙ some_or (eq_by_cmp nat_cmp other id) row (map.get live other) is

  -- so does giving another back
  pub live_left : (live : map.FinMap nat_cmp (List T)) (id other : ℕ) → other ≢ id → IsSome (map.get live other) → IsSome (map.get (map.remove live id) other)
  live_left live id other apart is = ap is_some (row_left live id other apart) ∙ is

  -- what was spare is none of the live rows
  pub spare_apart : (live : map.FinMap nat_cmp (List T)) (id other : ℕ) → map.get live id ≡ None → IsSome (map.get live other) → other ≢ id
  spare_apart live id other spare is same = false≢true (sym (ap is_some spare) ∙ rw same at is)

pub ruleset live_rows = (row_here, row_there, row_left, live_here, live_there, live_left, spare_apart, rewritten_same)
