-- What a region holds at the number of a row.
use Rattle.std.proofs.Common.{◌≡◌, ◌≢◌, ◌<◌, ◌+◌, ℕ, zero, suc, Bool, true, false, List, [], ◌∷◌, ◌++◌, length, Option, Some, None, option_map, set, refl, sym, ap, subst, ◌∙◌, arith, zero-add, Vec, Global, nat_cmp, inl, inr, add-zero}
use Rattle.std.specs.Prelude.{if◌then◌else◌}
use Rattle.std.specs.List.{slice_get}
use Rattle.std.specs.FinMap as map
use Rattle.std.specs.FinMap.{nat_cmp-IsAntisymmetric}
use Rattle.std.proofs.lemmas.Cmp.{nat_cmp_total}
use Rattle.std.proofs.lemmas.Bool.{cases_Bool, cases_order}
use Rattle.market_units.specs.Members.{has}
use Rattle.row_region.specs.Fields.{live_from}
use Rattle.row_region.proofs.Numbers.{tie_same, tie_apart}
use Rattle.market_units.proofs.Memberships.{has_push_same, has_push_other}

module _ {T : Type 0} where
  abbrev pub items_at : List (Vec T Global) → ℕ → Option (List T)
  items_at rows q = option_map (λ row. row.items) (slice_get rows q)

  -- what the row with this number holds, where it is not spare
  abbrev pub held : List (Vec T Global) → List ℕ → ℕ → Option (List T)
  held rows spare q = if has spare q then None else items_at rows q

  pub nothing : (b : Bool) → None ≡ (if b then None else option_map (λ (row : Vec T Global). row.items) None)
  nothing true = refl
  nothing false = refl

  find_below : (rows : List (Vec T Global)) (spare : List ℕ) (id q : ℕ) → q < id → map.find nat_cmp q (live_from id rows spare) ≡ None
  find_below [] spare id q low = refl
  find_below (row ∷ rows) spare id q low =
      let later = find_below rows spare (id + 1) q (omega arith) in
      elim (cases_Bool (has spare id)) [
        | inl is ↦ rw is later
        | inr not_spare ↦ rw (not_spare, tie_apart q id (λ e. absurd (omega arith))) later
      ]

  find_from : (rows : List (Vec T Global)) (spare : List ℕ) (id k : ℕ)
      → map.find nat_cmp (id + k) (live_from id rows spare) ≡ (if has spare (id + k) then None else items_at rows k)
  find_from [] spare id k = nothing (has spare (id + k))
  find_from (row ∷ rows) spare id zero =
      let here : id + 0 ≡ id = add-zero id in
      elim (cases_Bool (has spare id)) [
        | inl is ↦ rw (here, is) (find_below rows spare (id + 1) id (omega arith))
        | inr not_spare ↦ rw (here, not_spare, tie_same id) refl
      ]
  find_from (row ∷ rows) spare id (suc k) =
      let next : id + suc k ≡ (id + 1) + k = omega arith in
      let later = find_from rows spare (id + 1) k in
      elim (cases_Bool (has spare id)) [
        | inl is ↦ rw (next, is) later
        | inr not_spare ↦ rw (next, not_spare, tie_apart ((id + 1) + k) id (λ e. absurd (omega arith))) later
      ]

  abbrev pub live_of : List (Vec T Global) → List ℕ → map.FinMap nat_cmp (List T)
  live_of rows spare = map.from_entries (live_from 0 rows spare)

  pub get_live : (rows : List (Vec T Global)) (spare : List ℕ) (q : ℕ) → map.get (live_of rows spare) q ≡ held rows spare q
  get_live rows spare q =
      let P : ℕ → Type 0 = λ n. map.find nat_cmp n (live_from 0 rows spare) ≡ (if has spare n then None else items_at rows q) in
      map.get-from_entries nat_cmp_total (live_from 0 rows spare) q ∙ subst P (zero-add q) (find_from rows spare 0 q)

  items_at-set_same : (rows : List (Vec T Global)) (id : ℕ) (row : Vec T Global) → id < length rows → items_at (set rows id row) id ≡ Some row.items
  items_at-set_same [] id row within = absurd (omega arith)
  items_at-set_same (x ∷ rows) zero row within = refl
  items_at-set_same (x ∷ rows) (suc id) row within = items_at-set_same rows id row (omega arith)

  items_at-set_other : (rows : List (Vec T Global)) (id : ℕ) (row : Vec T Global) (q : ℕ) → q ≢ id → items_at (set rows id row) q ≡ items_at rows q
  items_at-set_other [] id row q apart = refl
  items_at-set_other (x ∷ rows) zero row zero apart = absurd (apart refl)
  items_at-set_other (x ∷ rows) zero row (suc q) apart = refl
  items_at-set_other (x ∷ rows) (suc id) row zero apart = refl
  items_at-set_other (x ∷ rows) (suc id) row (suc q) apart = items_at-set_other rows id row q (λ e. apart (ap suc e))

  -- the last spare row is handed out with another content
  pub live_of-taken : (rows : List (Vec T Global)) (spare : List ℕ) (id : ℕ) (row : Vec T Global) → id < length rows → has spare id ≡ false
      → live_of (set rows id row) spare ≡ map.insert (live_of rows (spare ++ id ∷ [])) id row.items
  live_of-taken rows spare id row within not_spare = map.same_map nat_cmp_total nat_cmp-IsAntisymmetric _ _ same
    where
      same : (q : ℕ) → map.get (live_of (set rows id row) spare) q ≡ map.get (map.insert (live_of rows (spare ++ id ∷ [])) id row.items) q
      same q =
          elim (cases_order q id) [
            | inl is ↦ rw (get_live, map.get-insert nat_cmp_total, is, not_spare, tie_same id, items_at-set_same rows id row within) refl
            | inr other ↦
                let apart : q ≢ id = λ e. elim other [ inl below ↦ absurd (omega arith) | inr above ↦ absurd (omega arith) ] in
                get_live (set rows id row) spare q
                ∙ rw (
                  map.get-insert nat_cmp_total (live_of rows (spare ++ id ∷ [])) id row.items q,
                  tie_apart q id apart,
                  get_live rows (spare ++ id ∷ []) q,
                  has_push_other spare id q (λ e. apart (sym e)),
                  items_at-set_other rows id row q apart,
                )
                refl
          ]

  -- a live row gets another content
  pub live_of-written : (rows : List (Vec T Global)) (spare : List ℕ) (id : ℕ) (row : Vec T Global) → id < length rows → has spare id ≡ false
      → live_of (set rows id row) spare ≡ map.insert (live_of rows spare) id row.items
  live_of-written rows spare id row within not_spare = map.same_map nat_cmp_total nat_cmp-IsAntisymmetric _ _ same
    where
      same : (q : ℕ) → map.get (live_of (set rows id row) spare) q ≡ map.get (map.insert (live_of rows spare) id row.items) q
      same q =
          elim (cases_order q id) [
            | inl is ↦ rw (get_live, map.get-insert nat_cmp_total, is, not_spare, tie_same id, items_at-set_same rows id row within) refl
            | inr other ↦
                let apart : q ≢ id = λ e. elim other [ inl below ↦ absurd (omega arith) | inr above ↦ absurd (omega arith) ] in
                get_live (set rows id row) spare q
                ∙ rw (
                  map.get-insert nat_cmp_total (live_of rows spare) id row.items q,
                  tie_apart q id apart,
                  get_live rows spare q,
                  items_at-set_other rows id row q apart,
                )
                refl
          ]

  -- a row is given back
  pub live_of-given : (rows : List (Vec T Global)) (spare : List ℕ) (id : ℕ) → live_of rows (spare ++ id ∷ []) ≡ map.remove (live_of rows spare) id
  live_of-given rows spare id = map.same_map nat_cmp_total nat_cmp-IsAntisymmetric _ _ same
    where
      same : (q : ℕ) → map.get (live_of rows (spare ++ id ∷ [])) q ≡ map.get (map.remove (live_of rows spare) id) q
      same q =
          elim (cases_order q id) [
            | inl is ↦ rw (get_live, map.get-remove nat_cmp_total, is, has_push_same spare id, tie_same id) refl
            | inr other ↦
                let apart : q ≢ id = λ e. elim other [ inl below ↦ absurd (omega arith) | inr above ↦ absurd (omega arith) ] in
                get_live rows (spare ++ id ∷ []) q
                ∙ rw (
                  map.get-remove nat_cmp_total (live_of rows spare) id q,
                  tie_apart q id apart,
                  get_live rows spare q,
                  has_push_other spare id q (λ e. apart (sym e)),
                )
                refl
          ]
