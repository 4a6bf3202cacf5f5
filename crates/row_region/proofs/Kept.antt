-- The fields of a region after each call: still kept, and what they hold.
use Rattle.std.proofs.Common.{◌≡◌, ◌≢◌, ◌<◌, ◌≤◌, ◌+◌, ◌-◌, ◌^◌, ℕ, zero, suc, true, false, List, [], ◌∷◌, ◌++◌, length, get_or, take, set, None, refl, sym, ap, ◌∙◌, arith, Vec, Global, nat_cmp, inl, inr, add-one, length-set, get_or-set_other, get_or-set_same}
use Rattle.std.specs.Prelude.{IsSome, is_some, All}
use Rattle.std.specs.Vec.{with_item}
use Rattle.std.specs.FinMap as map
use Rattle.std.specs.FinMap.{nat_cmp-IsAntisymmetric}
use Rattle.std.proofs.Math.Seq.{take-suc, take-suc-set}
use Rattle.std.proofs.lemmas.Cmp.{nat_cmp_total}
use Rattle.std.proofs.lemmas.Bool.{cases_Bool, cases_lt, cases_order, false≢true}
use Rattle.std.proofs.lemmas.List.{get_or-take, length-take-le}
use Rattle.std.proofs.lemmas.List.Elements.{All-set}
use Rattle.row_region.specs.Rows.{IsLive, spare_of, with_row, without_row}
use Rattle.market_units.specs.Members.{has}
use Rattle.row_region.specs.Fields.{rows_of, IsKept}
use Rattle.row_region.specs.declared.region.Region.TheInside.{Inside}
use Rattle.market_units.proofs.Memberships.{has_at, has_push_same}
use Rattle.row_region.proofs.Numbers.{has_none}
use Rattle.row_region.proofs.LiveRows.{nothing, items_at, held, live_of, get_live, live_of-taken, live_of-written, live_of-given}

-- the last spare row
last_spare : (ids : List ℕ) (s id : ℕ) → 0 < s → s ≤ length ids → get_or ids (s - 1) 0 ≡ id → take s ids ≡ take (s - 1) ids ++ id ∷ []
last_spare ids s id some within is =
    let e : suc (s - 1) ≡ s = omega arith in
    ap (λ n. take n ids) (sym e) ∙ take-suc ids (s - 1) 0 (omega arith) ∙ ap (λ x. take (s - 1) ids ++ x ∷ []) is

-- it stands at no earlier place
no_repeat : (ids : List ℕ) (s id : ℕ) → ((i j : ℕ) → i < j → j < s → get_or ids i 0 ≢ get_or ids j 0) → 0 < s → s ≤ length ids → get_or ids (s - 1) 0 ≡ id
    → has (take (s - 1) ids) id ≡ false
no_repeat ids s id distinct some within is =
    let short : length (take (s - 1) ids) ≡ s - 1 = length-take-le (s - 1) ids (omega arith) in
    has_none (take (s - 1) ids) id
    (λ k h e. let low : k < s - 1 = omega arith in distinct k (s - 1) low (omega arith) (sym (get_or-take (s - 1) ids k 0 low) ∙ e ∙ sym is))

module _ {T : Type 0} where
  within_of : (rows : List (Vec T Global)) (q : ℕ) → IsSome (items_at rows q) → q < length rows
  within_of [] q h = absurd (false≢true h)
  within_of (row ∷ rows) zero h = omega arith
  within_of (row ∷ rows) (suc q) h = let later = within_of rows q h in omega arith

  -- a live row is one of the rows, and not spare
  pub place_of : (rows : List (Vec T Global)) (spare : List ℕ) (id : ℕ) → IsSome (map.get (live_of rows spare) id) → (has spare id ≡ false) × (id < length rows)
  place_of rows spare id live =
      let h : IsSome (held rows spare id) = rw (get_live rows spare id) at live in
      elim (cases_Bool (has spare id)) [
        | inl is ↦ absurd (false≢true (rw is at h))
        | inr not_spare ↦ (not_spare, within_of rows id (rw not_spare at h))
      ]

  -- some row is live
  some_live : (m : map.FinMap nat_cmp (List T)) (id : ℕ) → IsSome (map.get m id) → 0 < map.len m
  some_live m id live =
      elim (cases_order 0 (map.len m)) [
        | inl none ↦
            let empty : m ≡ map.empty = map.empty_of_len m (sym none) in
            absurd (false≢true (sym (ap (λ n. is_some (map.get n id)) empty ∙ ap is_some (map.get-empty nat_cmp id)) ∙ live))
        | inr (inl some) ↦ some
        | inr (inr low) ↦ absurd (omega arith)
      ]

  -- so some row is not spare
  pub room_of : (r : Inside T) (id : ℕ) → IsKept r → IsLive (rows_of r) id → r.spare < length r.rows.items
  room_of r id kept live = let some : 0 < map.len (rows_of r).live = some_live (rows_of r).live id live in omega (arith, kept.all)

  pub spare_within : (r : Inside T) → IsKept r → r.spare ≤ length r.spare_ids.items
  spare_within r kept = omega (arith, kept.all, kept.places)

  pub spare_count : (r : Inside T) → IsKept r → spare_of (rows_of r) ≡ r.spare
  spare_count r kept = omega (arith, kept.all)

  -- ---- a spare row is handed out

  abbrev pub taken : Inside T → ℕ → Vec T Global → Inside T
  taken r id row = record { rows = with_item r.rows id row; spare_ids = r.spare_ids; spare = r.spare - 1; width = r.width; fill = r.fill }

  abbrev pub IsNext : Inside T → ℕ → Type 0
  IsNext r id = (0 < r.spare) × (get_or r.spare_ids.items (r.spare - 1) 0 ≡ id)

  pub next_within : (r : Inside T) (id : ℕ) → IsKept r → IsNext r id → id < length r.rows.items
  next_within r id kept next =
      let low : get_or r.spare_ids.items (r.spare - 1) 0 < length r.rows.items = kept.in_range (r.spare - 1) (omega arith) in rw next.1 at low

  pub next_not_live : (r : Inside T) (id : ℕ) → IsKept r → IsNext r id → map.get (rows_of r).live id ≡ None
  next_not_live r id kept next =
      let ids = r.spare_ids.items in
      let last : take r.spare ids ≡ take (r.spare - 1) ids ++ id ∷ [] = last_spare ids r.spare id next.0 (spare_within r kept) next.1 in
      get_live r.rows.items (take r.spare ids) id ∙ rw (last, has_push_same (take (r.spare - 1) ids) id) refl

  pub rows_of-taken : (r : Inside T) (id : ℕ) (row : Vec T Global) → IsKept r → IsNext r id → rows_of (taken r id row) ≡ with_row (rows_of r) id row.items
  rows_of-taken r id row kept next =
      let ids = r.spare_ids.items in
      let last : take r.spare ids ≡ take (r.spare - 1) ids ++ id ∷ [] = last_spare ids r.spare id next.0 (spare_within r kept) next.1 in
      let live : live_of (set r.rows.items id row) (take (r.spare - 1) ids) ≡ map.insert (live_of r.rows.items (take r.spare ids)) id row.items =
      live_of-taken r.rows.items (take (r.spare - 1) ids) id row (next_within r id kept next)
      (no_repeat ids r.spare id kept.distinct next.0 (spare_within r kept) next.1)
      ∙ ap (λ l. map.insert (live_of r.rows.items l) id row.items) (sym last) in
      let reserved : length (set r.rows.items id row) ≡ length r.rows.items = length-set r.rows.items id row in
      λ i. record { width = r.width; fill = r.fill; reserved = reserved i; live = live i }

  pub kept-taken : (r : Inside T) (id : ℕ) (row : Vec T Global) → IsKept r → IsNext r id → length row.items ≡ r.width → IsKept (taken r id row)
  kept-taken r id row kept next wide =
      let same : length (set r.rows.items id row) ≡ length r.rows.items = length-set r.rows.items id row in
      let view = rows_of-taken r id row kept next in
      let more : map.len (rows_of (taken r id row)).live ≡ map.len (rows_of r).live + 1 =
      ap (λ v. map.len v.live) view ∙ map.len-insert nat_cmp_total (rows_of r).live id row.items ∙ rw (next_not_live r id kept next) refl in
      let all : map.len (rows_of r).live + r.spare ≡ length r.rows.items = kept.all in
      let some : 0 < r.spare = next.0 in
      record {
        wide = All-set (λ x. length x.items ≡ r.width) r.rows.items id row wide kept.wide;
        places = kept.places ∙ sym same;
        in_range = λ k h. rw same (kept.in_range k (omega arith));
        distinct = λ i j h k. kept.distinct i j h (omega arith);
        all = let goal : map.len (rows_of (taken r id row)).live + (r.spare - 1) ≡ length (set r.rows.items id row) = rw (more, same) (omega arith) in goal;
        fits = rw same kept.fits;
      }

  -- ---- a live row is written

  abbrev pub written : Inside T → ℕ → Vec T Global → Inside T
  written r id row = record { rows = with_item r.rows id row; spare_ids = r.spare_ids; spare = r.spare; width = r.width; fill = r.fill }

  pub rows_of-written : (r : Inside T) (id : ℕ) (row : Vec T Global) → IsLive (rows_of r) id → rows_of (written r id row) ≡ with_row (rows_of r) id row.items
  rows_of-written r id row is_live =
      let place = place_of r.rows.items (take r.spare r.spare_ids.items) id is_live in
      let live : live_of (set r.rows.items id row) (take r.spare r.spare_ids.items)
      ≡ map.insert (live_of r.rows.items (take r.spare r.spare_ids.items)) id row.items =
      live_of-written r.rows.items (take r.spare r.spare_ids.items) id row place.1 place.0 in
      let reserved : length (set r.rows.items id row) ≡ length r.rows.items = length-set r.rows.items id row in
      λ i. record { width = r.width; fill = r.fill; reserved = reserved i; live = live i }

  pub kept-written : (r : Inside T) (id : ℕ) (row : Vec T Global) → IsKept r → IsLive (rows_of r) id → length row.items ≡ r.width → IsKept (written r id row)
  kept-written r id row kept is_live wide =
      let same : length (set r.rows.items id row) ≡ length r.rows.items = length-set r.rows.items id row in
      let here : map.contains_key (rows_of r).live id ≡ true = is_live in
      let as_many : map.len (rows_of (written r id row)).live ≡ map.len (rows_of r).live =
      ap (λ v. map.len v.live) (rows_of-written r id row is_live) ∙ map.len-insert nat_cmp_total (rows_of r).live id row.items ∙ rw here refl in
      record {
        wide = All-set (λ x. length x.items ≡ r.width) r.rows.items id row wide kept.wide;
        places = kept.places ∙ sym same;
        in_range = λ k h. rw same (kept.in_range k h);
        distinct = kept.distinct;
        all = rw (as_many, same) kept.all;
        fits = rw same kept.fits;
      }

  -- ---- a live row is given back

  abbrev pub given : Inside T → ℕ → Inside T
  given r id = record { rows = r.rows; spare_ids = with_item r.spare_ids r.spare id; spare = r.spare + 1; width = r.width; fill = r.fill }

  pub rows_of-given : (r : Inside T) (id : ℕ) → IsKept r → IsLive (rows_of r) id → rows_of (given r id) ≡ without_row (rows_of r) id
  rows_of-given r id kept is_live =
      let ids = r.spare_ids.items in
      let room : r.spare < length r.rows.items = room_of r id kept is_live in
      let more : take (r.spare + 1) (set ids r.spare id) ≡ take r.spare ids ++ id ∷ [] =
      rw (add-one r.spare) (take-suc-set ids r.spare id (omega (arith, kept.places))) in
      let live : live_of r.rows.items (take (r.spare + 1) (set ids r.spare id)) ≡ map.remove (live_of r.rows.items (take r.spare ids)) id =
      ap (live_of r.rows.items) more ∙ live_of-given r.rows.items (take r.spare ids) id in λ i. record { width = r.width; fill = r.fill; reserved = length r.rows.items; live = live i }

  pub kept-given : (r : Inside T) (id : ℕ) → IsKept r → IsLive (rows_of r) id → IsKept (given r id)
  kept-given r id kept is_live =
      let ids = r.spare_ids.items in
      let room : r.spare < length r.rows.items = room_of r id kept is_live in
      let within : r.spare < length ids = omega (arith, kept.places) in
      let place = place_of r.rows.items (take r.spare ids) id is_live in
      let some : 0 < map.len (rows_of r).live = some_live (rows_of r).live id is_live in
      let here : map.contains_key (rows_of r).live id ≡ true = is_live in
      let fewer : map.len (rows_of (given r id)).live ≡ map.len (rows_of r).live - 1 =
      ap (λ v. map.len v.live) (rows_of-given r id kept is_live) ∙ map.len-remove nat_cmp_total (rows_of r).live id ∙ rw here refl in
      let all : map.len (rows_of r).live + r.spare ≡ length r.rows.items = kept.all in
      let other : (k : ℕ) → k < r.spare → get_or ids k 0 ≢ id = λ k low e.
      let front : has (take r.spare ids) (get_or (take r.spare ids) k 0) ≡ true =
      has_at (take r.spare ids) k 0 (rw (length-take-le r.spare ids (omega arith)) low) in
      false≢true (sym place.0 ∙ ap (has (take r.spare ids)) (sym e ∙ sym (get_or-take r.spare ids k 0 low)) ∙ front) in
      record {
        wide = kept.wide;
        places = length-set ids r.spare id ∙ kept.places;
        in_range = λ k h. elim (cases_order k r.spare) [
          | inl last ↦ rw (last, get_or-set_same ids r.spare id 0 within) place.1
          | inr (inl low) ↦ rw (get_or-set_other ids r.spare k id 0 (λ e. absurd (omega arith))) (kept.in_range k low)
          | inr (inr high) ↦ absurd (omega arith)
        ];
        distinct = λ i j h k. elim (cases_order j r.spare) [
          | inl last ↦
              rw (last, get_or-set_same ids r.spare id 0 within, get_or-set_other ids r.spare i id 0 (λ e. absurd (omega arith))) (other i (omega arith))
          | inr (inl low) ↦
              rw (get_or-set_other ids r.spare i id 0 (λ e. absurd (omega arith)), get_or-set_other ids r.spare j id 0 (λ e. absurd (omega arith)))
              (kept.distinct i j h low)
          | inr (inr high) ↦ absurd (omega arith)
        ];
        all = let goal : map.len (rows_of (given r id)).live + (r.spare + 1) ≡ length r.rows.items = rw fewer (omega arith) in goal;
        fits = kept.fits;
      }

  -- ---- all rows are spare

  past : (rows : List (Vec T Global)) (q : ℕ) → length rows ≤ q → items_at rows q ≡ None
  past [] q high = refl
  past (row ∷ rows) zero high = absurd (omega arith)
  past (row ∷ rows) (suc q) high = past rows q (omega arith)

  pub none_live : (rows : List (Vec T Global)) (ids : List ℕ) → length ids ≡ length rows → ((k : ℕ) → k < length rows → get_or ids k 0 ≡ k)
      → live_of rows (take (length rows) ids) ≡ map.empty
  none_live rows ids places identity = map.same_map nat_cmp_total nat_cmp-IsAntisymmetric _ _ same
    where
      here : (q : ℕ) → q < length rows → has (take (length rows) ids) q ≡ true
      here q low =
          let short : length (take (length rows) ids) ≡ length rows = length-take-le (length rows) ids (omega arith) in
          let front : has (take (length rows) ids) (get_or (take (length rows) ids) q 0) ≡ true = has_at (take (length rows) ids) q 0 (omega arith) in
          rw (get_or-take (length rows) ids q 0 low, identity q low) at front

      same : (q : ℕ) → map.get (live_of rows (take (length rows) ids)) q ≡ map.get (map.empty {X = List T} {R = nat_cmp}) q
      same q =
          get_live rows (take (length rows) ids) q
          ∙ elim (cases_lt q (length rows)) [
            | inl low ↦ rw (here q low, map.get-empty nat_cmp q) refl
            | inr high ↦ rw (past rows q high, map.get-empty nat_cmp q) (sym (nothing (has (take (length rows) ids) q)))
          ]

  -- where the numbers are 0, 1, 2 and so on, and all are spare
  pub kept_whole : (r : Inside T) → All (λ row. length row.items ≡ r.width) r.rows.items → length r.spare_ids.items ≡ length r.rows.items
      → ((k : ℕ) → k < length r.rows.items → get_or r.spare_ids.items k 0 ≡ k) → r.spare ≡ length r.rows.items
      → length r.rows.items < 2 ^ 32 → IsKept r
  kept_whole r wide places identity all_spare fits =
      let live : (rows_of r).live ≡ map.empty =
      ap (λ n. live_of r.rows.items (take n r.spare_ids.items)) all_spare ∙ none_live r.rows.items r.spare_ids.items places identity in
      let none : map.len (rows_of r).live ≡ 0 = ap map.len live ∙ map.len-empty nat_cmp (List T) in
      record {
        wide = wide;
        places = places;
        in_range = λ k h. let low : k < length r.rows.items = omega arith in rw (identity k low) low;
        distinct = λ i j h k e. let low : j < length r.rows.items = omega arith in let a = identity i (omega arith) in let b = identity j low in omega arith;
        all = omega arith;
        fits = fits;
      }

  pub rows_of-whole : (r : Inside T) → length r.spare_ids.items ≡ length r.rows.items → ((k : ℕ) → k < length r.rows.items → get_or r.spare_ids.items k 0 ≡ k)
      → r.spare ≡ length r.rows.items
      → rows_of r ≡ record { width = r.width; fill = r.fill; reserved = length r.rows.items; live = map.empty }
  rows_of-whole r places identity all_spare =
      let live : (rows_of r).live ≡ map.empty =
      ap (λ n. live_of r.rows.items (take n r.spare_ids.items)) all_spare ∙ none_live r.rows.items r.spare_ids.items places identity in
      λ i. record { width = r.width; fill = r.fill; reserved = length r.rows.items; live = live i }
