-- How a region keeps its rows.
use Rattle.std.specs.Prelude.{◌≡◌, ◌≢◌, ◌<◌, ◌+◌, ◌^◌, ℕ, List, [], ◌∷◌, length, take, if◌then◌else◌, slice_index, Vec, All}
use Rattle.std.specs.declared.alloc.Global.{Global}
use Rattle.std.specs.FinMap as map
use Rattle.market_units.specs.Members.{has}
use Rattle.row_region.specs.Rows.{Rows}
use Rattle.row_region.specs.declared.region.Region.TheInside.{Inside}

-- the rows from this number on that are not spare, with what they hold
abbrev pub live_from : {T : Type 0} → ℕ → List (Vec T Global) → List ℕ → List (ℕ × List T)
live_from id [] spare = []
live_from id (row ∷ rows) spare =
    if has spare id then live_from (id + 1) rows spare
    else (id, row.items) ∷ live_from (id + 1) rows spare

abbrev pub rows_of : {T : Type 0} → Inside T → Rows T
rows_of region = record {
  width = region.width;
  fill = region.fill;
  reserved = length region.rows.items;
  live =
      map.from_entries (live_from 0 region.rows.items (take region.spare region.spare_ids.items));
}

-- the first of the numbers are those of the spare rows, each once
pub record IsKept {T : Type 0} (region : Inside T) : Type 0 where
  pub wide : All (λ row. length row.items ≡ region.width) region.rows.items
  pub places : length region.spare_ids.items ≡ length region.rows.items
  pub in_range : (k : ℕ) → k < region.spare
      → slice_index region.spare_ids.items k < length region.rows.items
  pub distinct : (i j : ℕ) → i < j → j < region.spare
      → slice_index region.spare_ids.items i ≢ slice_index region.spare_ids.items j
  pub all : map.len (rows_of region).live + region.spare ≡ length region.rows.items
  pub fits : length region.rows.items < 2 ^ 32
