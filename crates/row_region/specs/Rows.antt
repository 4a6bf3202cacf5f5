-- What a region is seen as: the width and the fill of its rows, how many are reserved, and the live
-- ones.
use Rattle.std.specs.Prelude.{ℕ, ◌-◌, List, [], length, Option, None, Some, IsSome, refl}
use Rattle.std.specs.List.{refill}
use Rattle.std.specs.Ordering.{nat_cmp}
use Rattle.std.specs.FinMap as map
use Rattle.std.specs.Coded.{Coded, code_by, coded×, coded_ℕ, coded_list}

pub record Rows (T : Type 0) : Type 0 where
  pub width : ℕ
  pub fill : T
  pub reserved : ℕ
  -- what each live row holds, by its number
  pub live : map.FinMap nat_cmp (List T)

-- a region is stored as its fields
abbrev pub rows_code : {T : Type 0} → Coded T → Coded (Rows T)
rows_code {T} code =
    code_by (ℕ × (T × (ℕ × map.FinMap nat_cmp (List T))))
    (coded× coded_ℕ (coded× code (coded× coded_ℕ (map.code coded_ℕ (coded_list code)))))
    (λ r. (r.width, (r.fill, (r.reserved, r.live))))
    (λ p. record { width = p.0; fill = p.1.0; reserved = p.1.1.0; live = p.1.1.1 }) (λ _. refl)

module _ {T : Type 0} where
  -- the row with this number is handed out
  abbrev pub IsLive : Rows T → ℕ → Type 0
  IsLive region id = IsSome (map.get region.live id)

  -- what a row holds, and nothing where it is spare
  abbrev pub cells_of : Option (List T) → List T
  cells_of None = []
  cells_of (Some row) = row

  -- how many rows are not handed out
  abbrev pub spare_of : Rows T → ℕ
  spare_of region = region.reserved - map.len region.live

  -- the region with this in the row; all other rows stay
  abbrev pub with_row : Rows T → ℕ → List T → Rows T
  with_row region id row = record region { live = map.insert region.live id row }

  -- the region after the row is given back; all other rows stay
  abbrev pub without_row : Rows T → ℕ → Rows T
  without_row region id = record region { live = map.remove region.live id }

  -- the row after a write of these cells: they are the row, where they are as many
  abbrev pub rewritten : List T → List T → List T
  rewritten row cells = refill (length row) row cells
