-- What adjustments with the places from one on can add, place by place.
use Rattle.std.proofs.Common.{◌≡◌, ℕ, zero, suc, ◌+◌, ◌*◌, ◌-◌, ◌≤◌, ◌<◌, false, true, List, [], length, set, replicate, refl, sym, ap, ◌∙◌, arith, inl, inr}
use Rattle.std.specs.Prelude.{ℤ, pos, negsuc, ◌≤ℤ◌, slice_index, slice_get}
use Rattle.std.proofs.Common.{Some}
use Rattle.std.specs.Ordering.{nat_cmp}
use Rattle.std.specs.FinSet as fin
use Rattle.std.proofs.lemmas.Int.{ints}
use Rattle.std.proofs.lemmas.Bool.{cases_Bool, cases_order}
use Rattle.std.proofs.lemmas.List.{get_or-set_same, get_or-set_other}
use Rattle.market_units.specs.declared.units.Tokens.{Tokens}
use Rattle.market_units.specs.Totals.{total}
pub use Rattle.bundle_rules.proofs.Renamed.{adjustment_mutual}
use Rattle.bundle_rules.specs.declared.menu.Rated.{Rated}
use Rattle.bundle_rules.specs.Menus.{MenuData, IsMenu, adjustment_in}
use Rattle.bundle_rules.specs.Places.{places_from}
use Rattle.bundle_rules.specs.Existence.Places.{section_at-is}
use Rattle.bundle_rules.proofs.Tables.{adjustment_in-high, all_pairs}
use Rattle.bundle_bounds.specs.Offers.{OfferData, offer_of, allowed_at}
use Rattle.bundle_bounds.specs.Opens.{above_zero}
use Rattle.demand_oracle.specs.Values.{hope, hopes_from}
use Rattle.demand_oracle.specs.Reaches.{number_at, HoldsHopes}

module _ (offer : OfferData) where
  -- from a place on: with that place, and from the next one on
  pub hopes_step : (k place : ℕ) → k < length offer.menu.places → hopes_from offer k place ≡ hope offer place k + hopes_from offer (k + 1) place
  hopes_step k place low =
      let split : length offer.menu.places - k ≡ suc (length offer.menu.places - (k + 1)) = omega arith in
      let next : suc k ≡ k + 1 = omega arith in
      ap (λ n. total (hope offer place) (places_from k n)) split
      ∙ ap (λ n. hope offer place k + total (hope offer place) (places_from n (length offer.menu.places - (k + 1)))) next

  -- past the last place there is nothing to hope for
  pub hopes_past : (k place : ℕ) → length offer.menu.places ≤ k → hopes_from offer k place ≡ 0
  hopes_past k place past = let none : length offer.menu.places - k ≡ 0 = omega arith in ap (λ n. total (hope offer place) (places_from k n)) none

  -- a place that is not allowed adds nothing
  pub hopes_not_allowed : (k place : ℕ) → k < length offer.menu.places → allowed_at offer k ≡ false → hopes_from offer k place ≡ hopes_from offer (k + 1) place
  hopes_not_allowed k place low off =
      let step = hopes_step k place low in
      let h : ℕ = hopes_from offer (k + 1) place in
      let whole : hopes_from offer k place ≡ 0 + h = rw off at step in
      let goal : hopes_from offer k place ≡ h = omega arith in goal

  -- an allowed one what its adjustment can
  pub hopes_allowed : (k place : ℕ) → k < length offer.menu.places → allowed_at offer k ≡ true
      → hopes_from offer k place ≡ above_zero (adjustment_in offer.menu.pairs place k) + hopes_from offer (k + 1) place
  hopes_allowed k place low on = let step = hopes_step k place low in rw on at step

  -- a place that has no positive adjustment with an earlier one adds nothing to it
  pub hopes_not_raised : (k place : ℕ) → k < length offer.menu.places → above_zero (adjustment_in offer.menu.pairs place k) ≡ 0
      → hopes_from offer k place ≡ hopes_from offer (k + 1) place
  hopes_not_raised k place low none = elim (cases_Bool (allowed_at offer k)) [
    | inl on ↦
        let h : ℕ = hopes_from offer (k + 1) place in
        let a : ℕ = above_zero (adjustment_in offer.menu.pairs place k) in
        let whole : hopes_from offer k place ≡ a + h = hopes_allowed k place low on in
        let zero : a ≡ 0 = none in
        let goal : hopes_from offer k place ≡ h = omega arith in goal
    | inr off ↦ hopes_not_allowed k place low off
  ]

  above_zero-high : (z : ℤ) → z ≤ℤ pos 200 → above_zero z ≤ 200
  above_zero-high (pos n) low = omega (arith, ints)
  above_zero-high (negsuc n) low = omega arith

  hope-high : IsMenu offer.menu → (place other : ℕ) → hope offer place other ≤ 200
  hope-high menu place other = elim (cases_Bool (allowed_at offer other)) [
    | inl on ↦ rw on (above_zero-high _ (adjustment_in-high (length offer.menu.places) offer.menu.pairs place other (all_pairs _ _ menu.pairs.each)))
    | inr off ↦ rw off (omega arith)
  ]

  hopes-high : IsMenu offer.menu → (place k count : ℕ) → total (hope offer place) (places_from k count) ≤ 200 * count
  hopes-high menu place k zero = omega arith
  hopes-high menu place k (suc count) =
      let rest = hopes-high menu place (suc k) count in
      let t : ℕ = total (hope offer place) (places_from (suc k) count) in
      let rest' : t ≤ 200 * count = rest in
      let one : hope offer place k ≤ 200 = hope-high menu place k in
      let goal : hope offer place k + t ≤ 200 * suc count = omega arith in goal

  -- at most 12,000 in all
  pub hopes_from-high : IsMenu offer.menu → (k place : ℕ) → hopes_from offer k place ≤ 12000
  hopes_from-high menu k place =
      let all = hopes-high menu place k (length offer.menu.places - k) in
      let t : ℕ = hopes_from offer k place in
      let all' : t ≤ 200 * (length offer.menu.places - k) = all in
      let few : length offer.menu.places ≤ 60 = menu.places.few in
      let goal : t ≤ 12000 = omega arith in goal

-- whether the place of a section that was read is allowed
pub allowed_read : (menu : MenuData) (prices : List Tokens) (budget : ℕ) (allowed : fin.FinSet nat_cmp) (place : ℕ) (rated : Rated)
    → slice_get menu.places place ≡ Some rated → allowed_at (offer_of menu prices budget allowed) place ≡ fin.contains allowed rated.section.0
allowed_read menu prices budget allowed place rated is = ap (fin.contains allowed) (section_at-is menu.places place rated is)

-- a row of a table after another row was written
pub row_same : (table : List (List ℕ)) (i : ℕ) (row : List ℕ) (place : ℕ) → i < length table → number_at (set table i row) i place ≡ slice_index row place
row_same table i row place low = ap (λ r. slice_index r place) (get_or-set_same table i row [] low)

pub row_other : (table : List (List ℕ)) (i j : ℕ) (row : List ℕ) (place : ℕ) → (j ≡ i → ⊥) → number_at (set table i row) j place ≡ number_at table j place
row_other table i j row place other = ap (λ r. slice_index r place) (get_or-set_other table i j row [] other)

-- a table that holds what can be hoped for from the next place on, with the row of a place
pub holds_more : (offer : OfferData) (table : List (List ℕ)) (k : ℕ) (row : List ℕ) → k < length table → HoldsHopes offer table (k + 1)
    → ((place : ℕ) → place < k → slice_index row place ≡ hopes_from offer k place) → HoldsHopes offer (set table k row) k
holds_more offer table k row low holds is j place from on before =
    elim (cases_order j k) [
      | inl same ↦
          ap (λ n. number_at (set table k row) n place) same ∙ row_same table k row place low ∙ is place (omega arith)
          ∙ ap (λ n. hopes_from offer n place) (sym same)
      | inr (inl below) ↦ absurd (omega arith)
      | inr (inr above) ↦ row_other table k j row place (λ e. absurd (omega arith)) ∙ holds j place (omega arith) on before
    ]

-- a row before those that it holds may be anything
pub holds_kept : (offer : OfferData) (table : List (List ℕ)) (k : ℕ) (row : List ℕ) → HoldsHopes offer table (k + 1) → HoldsHopes offer (set table k row) (k + 1)
holds_kept offer table k row holds j place from on before =
    row_other table k j row place (λ e. absurd (omega arith)) ∙ holds j place from on before

-- the row past the last place
pub holds_last : (offer : OfferData) (table : List (List ℕ)) (row : List ℕ) → length offer.menu.places < length table → ((place : ℕ) → slice_index row place ≡ 0)
    → HoldsHopes offer (set table (length offer.menu.places) row) (length offer.menu.places)
holds_last offer table row low zeros j place from on before =
    let same : j ≡ length offer.menu.places = omega arith in
    ap (λ n. number_at (set table (length offer.menu.places) row) n place) same ∙ row_same table (length offer.menu.places) row place low ∙ zeros place
    ∙ sym (hopes_past offer j place from)

-- a row of zeros
pub zero_row : (n place : ℕ) → slice_index (replicate n 0) place ≡ 0
zero_row zero place = refl
zero_row (suc n) zero = refl
zero_row (suc n) (suc place) = zero_row n place
