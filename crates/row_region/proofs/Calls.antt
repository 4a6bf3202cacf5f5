-- What each call leaves, for a region whose fields are seen as v.
use Rattle.std.proofs.Common.{◌≡◌, ◌<◌, ◌+◌, ◌-◌, ℕ, List, length, get_or, take, replicate, Some, None, refl, sym, ap, ◌∙◌, arith, Vec, Global}
use Rattle.std.specs.Prelude.{is_some}
use Rattle.std.specs.FinMap as map
use Rattle.std.specs.Vec.{with_items}
use Rattle.std.proofs.lemmas.List.{get_or_read}
use Rattle.std.proofs.lemmas.Option.{slice_get_read}
use Rattle.row_region.specs.Rows.{Rows, IsLive, spare_of, with_row, without_row, rewritten}
use Rattle.row_region.specs.Fields.{rows_of, IsKept}
use Rattle.row_region.specs.declared.region.Region.TheInside.{Inside}
use Rattle.row_region.proofs.LiveRows.{get_live}
use Rattle.row_region.proofs.Kept.{IsNext, next_within, next_not_live, rows_of-taken, kept-taken, taken, spare_count, written, rows_of-written, kept-written, given, rows_of-given, kept-given, place_of, room_of}
use Rattle.row_region.proofs.Filling.{wide_at, items-with_items, filled_again, length-with_items}

module _ {T : Type 0} where
  next_from : (r : Inside T) (v : Rows T) (id : ℕ) → IsKept r → rows_of r ≡ v → 0 < spare_of v → id ≡ get_or r.spare_ids.items (r.spare - 1) id → IsNext r id
  next_from r v id kept is some read =
      let count : spare_of (rows_of r) ≡ r.spare = spare_count r kept in
      let same : spare_of (rows_of r) ≡ spare_of v = ap spare_of is in
      let some_spare : 0 < r.spare = omega arith in
      let within : r.spare - 1 < length r.spare_ids.items = omega (arith, kept.all, kept.places) in
      (some_spare, sym (get_or_read r.spare_ids.items (r.spare - 1) id within read 0))

  pub record Takes (r : Inside T) (v : Rows T) (id : ℕ) (row : Vec T Global) : Type 0 where
    pub kept : IsKept (taken r id row)
    pub was_spare : map.get v.live id ≡ None
    pub filled : rows_of (taken r id row) ≡ with_row v id (replicate v.width v.fill)
    pub spare : spare_of (rows_of (taken r id row)) + 1 ≡ spare_of v

  pub takes : (r : Inside T) (v : Rows T) (id : ℕ) (row : Vec T Global) (old cells : List T) → IsKept r → rows_of r ≡ v → 0 < spare_of v
      → id ≡ get_or r.spare_ids.items (r.spare - 1) id
      → row ≡ get_or r.rows.items id row → old ≡ row.items → cells ≡ replicate (length old) r.fill → Takes r v id (with_items row cells)
  takes r v id row old cells kept is some read at_id old_is cells_are =
      let next = next_from r v id kept is some read in
      let wide : length row.items ≡ r.width = wide_at r.rows.items id r.width row kept.wide (next_within r id kept next) at_id in
      let items : (with_items row cells).items ≡ replicate r.width r.fill =
      ap (λ w. (with_items row w).items) (cells_are ∙ ap (λ l. replicate (length l) r.fill) old_is) ∙ filled_again row r.fill r.width wide in
      let kept_after : IsKept (taken r id (with_items row cells)) = kept-taken r id (with_items row cells) kept next (length-with_items row cells ∙ wide) in
      let before : spare_of (rows_of r) ≡ r.spare = spare_count r kept in
      let after : spare_of (rows_of (taken r id (with_items row cells))) ≡ r.spare - 1 = spare_count (taken r id (with_items row cells)) kept_after in
      let same : spare_of (rows_of r) ≡ spare_of v = ap spare_of is in
      let some_spare : 0 < r.spare = next.0 in
      record {
        kept = kept_after;
        was_spare = ap (λ x. map.get x.live id) (sym is) ∙ next_not_live r id kept next;
        filled =
            rows_of-taken r id (with_items row cells) kept next ∙ ap (with_row (rows_of r) id) items ∙ ap (λ x. with_row x id (replicate x.width x.fill)) is;
        spare = omega arith;
      }

  pub record Gives (r : Inside T) (v : Rows T) (id : ℕ) : Type 0 where
    pub room : r.spare < length r.spare_ids.items
    pub kept : IsKept (given r id)
    pub back : rows_of (given r id) ≡ without_row v id
    pub spare : spare_of (rows_of (given r id)) ≡ spare_of v + 1

  pub gives : (r : Inside T) (v : Rows T) (id : ℕ) → IsKept r → rows_of r ≡ v → IsLive v id → Gives r v id
  gives r v id kept is live =
      let is_live : IsLive (rows_of r) id = ap (λ x. is_some (map.get x.live id)) is ∙ live in
      let room : r.spare < length r.rows.items = room_of r id kept is_live in
      let kept_after : IsKept (given r id) = kept-given r id kept is_live in
      let before : spare_of (rows_of r) ≡ r.spare = spare_count r kept in
      let after : spare_of (rows_of (given r id)) ≡ r.spare + 1 = spare_count (given r id) kept_after in
      let same : spare_of (rows_of r) ≡ spare_of v = ap spare_of is in
      record {
        room = omega (arith, kept.places);
        kept = kept_after;
        back = rows_of-given r id kept is_live ∙ ap (λ x. without_row x id) is;
        spare = omega arith;
      }

  pub record Shows (r : Inside T) (v : Rows T) (id : ℕ) (row : Vec T Global) : Type 0 where
    pub row_is : map.get v.live id ≡ Some row.items
    pub width_is : length row.items ≡ v.width

  pub within_rows : (r : Inside T) (v : Rows T) (id : ℕ) → rows_of r ≡ v → IsLive v id → id < length r.rows.items
  within_rows r v id is live =
      let is_live : IsLive (rows_of r) id = ap (λ x. is_some (map.get x.live id)) is ∙ live in
      (place_of r.rows.items (take r.spare r.spare_ids.items) id is_live).1

  pub shows : (r : Inside T) (v : Rows T) (id : ℕ) (row : Vec T Global) → IsKept r → rows_of r ≡ v → IsLive v id → row ≡ get_or r.rows.items id row
      → Shows r v id row
  shows r v id row kept is live at_id =
      let is_live : IsLive (rows_of r) id = ap (λ x. is_some (map.get x.live id)) is ∙ live in
      let place = place_of r.rows.items (take r.spare r.spare_ids.items) id is_live in
      record {
        row_is = ap (λ x. map.get x.live id) (sym is)
            ∙ get_live r.rows.items (take r.spare r.spare_ids.items) id
            ∙ rw (place.0, slice_get_read r.rows.items (length r.rows.items) id row refl place.1 at_id) refl;
        width_is = wide_at r.rows.items id r.width row kept.wide place.1 at_id ∙ ap (λ x. x.width) is;
      }

  pub record Writes (r : Inside T) (v : Rows T) (id : ℕ) (row : Vec T Global) (cells : List T) : Type 0 where
    pub kept : IsKept (written r id (with_items row cells))
    pub back : rows_of (written r id (with_items row cells)) ≡ with_row v id (rewritten row.items cells)

  pub writes : (r : Inside T) (v : Rows T) (id : ℕ) (row : Vec T Global) (cells : List T) → IsKept r → rows_of r ≡ v → IsLive v id
      → row ≡ get_or r.rows.items id row → Writes r v id row cells
  writes r v id row cells kept is live at_id =
      let is_live : IsLive (rows_of r) id = ap (λ x. is_some (map.get x.live id)) is ∙ live in
      let place = place_of r.rows.items (take r.spare r.spare_ids.items) id is_live in
      let wide : length row.items ≡ r.width = wide_at r.rows.items id r.width row kept.wide place.1 at_id in
      record {
        kept = kept-written r id (with_items row cells) kept is_live (length-with_items row cells ∙ wide);
        back =
            rows_of-written r id (with_items row cells) is_live ∙ ap (with_row (rows_of r) id) (items-with_items row cells)
            ∙ ap (λ x. with_row x id (rewritten row.items cells)) is;
      }
