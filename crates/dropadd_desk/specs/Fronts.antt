-- How lists are kept: each is the front of a live row of a region.
use Rattle.std.specs.Prelude.{ℕ, ◌≡◌, ◌<◌, ◌≤◌, ◌^◌, ◌==◌, ◌||◌, Bool, false, ⊤, List, [], ◌∷◌, take}
use Rattle.std.specs.Ordering.{nat_cmp}
use Rattle.std.specs.FinMap as map
use Rattle.row_region.specs.Rows.{Rows, IsLive, cells_of}
use Rattle.dropadd_desk.specs.declared.lists.Front.{Front}
use Rattle.dropadd_desk.specs.declared.lists.WaitingLists.TheInside.{Inside}
use Rattle.dropadd_desk.specs.Lists.{Lists}

-- the fronts of these rows
abbrev pub fronts_in : map.FinMap nat_cmp (List ℕ) → List Front → List (List ℕ)
fronts_in live [] = []
fronts_in live (front ∷ more) =
    take front.len (cells_of (map.get live front.row)) ∷ fronts_in live more

-- whether a row is that of one of these
abbrev pub is_row_of : List Front → ℕ → Bool
is_row_of [] row = false
is_row_of (front ∷ more) row = front.row == row || is_row_of more row

-- the rows are live, no two the same, and each list is within its row
abbrev pub AreLive : Rows ℕ → List Front → Type 0
AreLive region [] = ⊤
AreLive region (front ∷ more) =
    IsLive region front.row × (front.len ≤ region.width) × (is_row_of more front.row ≡ false)
    × AreLive region more

abbrev pub lists_of : Inside → Lists
lists_of kept =
    record { width = kept.region.width; lists = fronts_in kept.region.live kept.fronts.items }

-- what lists keep: so many rows, each of a width below 65,536
pub record AreKept (kept : Inside) : Type 0 where
  pub wide : kept.region.width < 2 ^ 16
  pub live : AreLive kept.region kept.fronts.items
