-- Rows of a search order that are filled one after another.
use Rattle.std.proofs.Common.{◌≡◌, ◌≢◌, ◌<◌, ◌+◌, ◌*◌, ◌%◌, ◌^◌, ◌||◌, ◌↔◌, ℕ, zero, suc, true, List, [], ◌∷◌, length, map, get_or, slice_index, slice_set, set, refl, inl, inr, sym, ◌∙◌, subst, ap, arith, w64}
use Rattle.std.specs.Prelude.{bit_or}
use Rattle.std.specs.Int.{bit_at}
use Rattle.std.specs.Ordering.{nat_cmp}
use Rattle.std.specs.Cmp.{nat_cmp_total, unsigned_tied}
use Rattle.std.specs.FinSet as finite
use Rattle.std.specs.FinSet.{contains-insert}
use Rattle.std.proofs.lemmas.Bool.{cases_eq, eq-eqb, ne_eqb, false≢true}
use Rattle.std.proofs.lemmas.List.{get_or-set_same, get_or-set_other, map-set, length-map}
use Rattle.std.proofs.lemmas.Nat.Bits.{bit_at_set_same, bit_at_set_other}
use Rattle.market_units.specs.declared.units.Tokens.{Tokens}
use Rattle.bundle_rules.specs.declared.menu.Rated.{Rated}
use Rattle.bundle_rules.specs.Demand.{price_in}
use Rattle.bundle_rules.specs.Wishes.{AllRated}
use Rattle.bundle_rules.specs.Menus.{MenuData, IsMenu, wishes_of, section_at}
use Rattle.bundle_rules.specs.Existence.Members.{has-here, has-cases}
use Rattle.bundle_rules.specs.Ranks.{place_at, position_of, IsOrder, IsRenamed}
use Rattle.bundle_rules.proofs.Positions.{rank_low, place_of_rank, rank_of_place, one_position}
use Rattle.bundle_rules.proofs.Renamed.{rated_below}
use Rattle.demand_oracle.specs.declared.names.Names.{Names}
use Rattle.demand_oracle.specs.Names.{HoldsNames}
use Rattle.demand_oracle.proofs.Rows.{row_more}

-- one more price
pub price_more : (Holds : ℕ → ℕ → Type 0) (prices : List Tokens) (n at : ℕ) (price : Tokens) → at ≡ n → n < length prices
    → ((p : ℕ) → p < n → Holds p (price_in prices p)) → Holds n price.0 → (p : ℕ) → p < n + 1 → Holds p (price_in (set prices at price) p)
price_more Holds prices n at price same on filled own =
    subst (λ l. (p : ℕ) → p < n + 1 → Holds p (slice_index l p)) (sym (map-set (λ t. t.0) prices at price))
    (row_more Holds (map (λ t. t.0) prices) n at price.0 same (subst (λ k. n < k) (sym (length-map prices (λ t. t.0))) on) filled own)

pub section_read : (places : List Rated) (k : ℕ) (d : Rated) → k < length places → (get_or places k d).section.0 ≡ section_at places k
section_read [] k d low = absurd (omega arith)
section_read (rated ∷ places) zero d low = refl
section_read (rated ∷ places) (suc k) d low = section_read places k d (omega arith)

-- one more member
pub insert_here : (s : finite.FinSet nat_cmp) (n : ℕ) → finite.contains (finite.insert s n) n ≡ true
insert_here s n = contains-insert nat_cmp_total s n n ∙ ap (λ b. b || finite.contains s n) (unsigned_tied n n ∙ eq-eqb n n refl)

pub insert_there : (s : finite.FinSet nat_cmp) (n q : ℕ) → q ≢ n → finite.contains (finite.insert s n) q ≡ finite.contains s q
insert_there s n q apart = contains-insert nat_cmp_total s n q ∙ ap (λ b. b || finite.contains s q) (unsigned_tied q n ∙ ne_eqb q n apart)

module _ (n : ℕ) (order : List ℕ) (is : IsOrder n order) where
  -- one more place has its position
  pub position_more : (at : List ℕ) (k i : ℕ) → length at ≡ 60 → k < n → i ≡ place_at order k → i < 60
      → ((p : ℕ) → p < k → slice_index at (place_at order p) ≡ p) → (p : ℕ) → p < k + 1 → slice_index (slice_set at i k) (place_at order p) ≡ p
  position_more at k i whole low same on filled p before = elim (cases_eq p k) [
    | inl here ↦
        let there : place_at order p ≡ i = ap (place_at order) here ∙ sym same in
        ap (slice_index (slice_set at i k)) there ∙ get_or-set_same at i k 0 (omega arith) ∙ sym here
    | inr other ↦
        let apart : place_at order p ≢ i = λ e. other (one_position n order p k is (omega arith) low (e ∙ same)) in
        get_or-set_other at i (place_at order p) k 0 apart ∙ filled p (omega arith)
  ]

  module _ (at : List ℕ) (back : (p : ℕ) → p < n → slice_index at (place_at order p) ≡ p) where
    -- what is read for a place is its position
    pub position_read : (k i : ℕ) → k < n → i ≡ k → slice_index at i ≡ position_of order k
    position_read k i low same =
        ap (slice_index at) (same ∙ sym (place_of_rank n order k is low)) ∙ back (position_of order k) (rank_low n order k is low)

    pub position_low : (k i : ℕ) → k < n → i ≡ k → slice_index at i < n
    position_low k i low same = subst (λ p. p < n) (sym (position_read k i low same)) (rank_low n order k is low)

  module _ (k : ℕ) (low : k < n) where
    at_k : place_at order (position_of order k) ≡ k
    at_k = place_of_rank n order k is low

    only_k : (p : ℕ) → p < n → p ≢ position_of order k → place_at order p ≢ k
    only_k p on other = λ same. other (sym (rank_of_place n order p is on) ∙ ap (position_of order) same)

    -- one more position has its word
    pub word_filled : (before : List ℕ) (earlier j : ℕ) → j < length before → j ≡ position_of order k
        → ((p q : ℕ) → p < n → q < n → place_at order p < k → (bit_at (slice_index before p) q ≡ 1) ↔ (place_at order q < place_at order p))
        → ((q : ℕ) → q < n → (bit_at earlier q ≡ 1) ↔ (place_at order q < k)) → (p q : ℕ) → p < n → q < n → place_at order p < k + 1
        → (bit_at (slice_index (slice_set before j earlier) p) q ≡ 1) ↔ (place_at order q < place_at order p)
    word_filled before earlier j on same filled passed p q low_p low_q under = elim (cases_eq p j) [
      | inl here ↦
          let read : slice_index (slice_set before j earlier) p ≡ earlier =
          ap (slice_index (slice_set before j earlier)) here ∙ get_or-set_same before j earlier 0 on in
          let place : place_at order p ≡ k = ap (place_at order) (here ∙ same) ∙ at_k in
          rw (read, place) (passed q low_q)
      | inr other ↦
          let read : slice_index (slice_set before j earlier) p ≡ slice_index before p = get_or-set_other before j p earlier 0 other in
          let apart : place_at order p ≢ k = only_k p low_p (λ e. other (e ∙ sym same)) in
          rw read (filled p q low_p low_q (omega arith))
    ]

    -- and is passed
    pub word_passed : (earlier j : ℕ) → j < 64 → j ≡ position_of order k → ((q : ℕ) → q < n → (bit_at earlier q ≡ 1) ↔ (place_at order q < k)) → (q : ℕ) → q < n
        → (bit_at (bit_or earlier (1 * 2 ^ j % 2 ^ 64)) q ≡ 1) ↔ (place_at order q < k + 1)
    word_passed earlier j small same passed q low_q = elim (cases_eq q j) [
      | inl here ↦
          let place : place_at order q ≡ k = ap (place_at order) (here ∙ same) ∙ at_k in
          (λ set. omega arith, λ under. subst (λ i. bit_at (bit_or earlier (1 * 2 ^ j % 2 ^ 64)) i ≡ 1) (sym here) (bit_at_set_same w64 earlier j small))
      | inr other ↦
          let apart : place_at order q ≢ k = only_k q low_q (λ e. other (e ∙ sym same)) in
          let kept : bit_at (bit_or earlier (1 * 2 ^ j % 2 ^ 64)) q ≡ bit_at earlier q = bit_at_set_other w64 earlier j small q other in (
            λ set. (let under : place_at order q < k = (passed q low_q).0 (sym kept ∙ set) in omega arith),
            λ under. kept ∙ (passed q low_q).1 (omega arith),
          )
    ]

module _ (order : List ℕ) (m r : MenuData) (menu : IsMenu m) (menu' : IsMenu r) (is : IsRenamed order m r) where
  rated_low : (s : ℕ) → 0 < (wishes_of r).rating s → s < length m.places
  rated_low s rated = rated_below order m r menu menu' is (s ∷ []) one s (has-here s [])
    where
      one : AllRated (wishes_of r) (s ∷ [])
      one t is = elim (has-cases s [] t is) [
        | inl here ↦ subst (λ u. 0 < (wishes_of r).rating u) here rated
        | inr there ↦ absurd (false≢true there)
      ]

  -- the places of positions are their names
  pub names_hold : (names : Names) → names.order.now ≡ order
      → ((p q : ℕ) → p < length m.places → q < length m.places → (bit_at (slice_index names.before p) q ≡ 1) ↔ (place_at order q < place_at order p))
      → HoldsNames r names
  names_hold names same words = record {
    apart = λ s t is_s is_t equal.
        one_position (length m.places) order s t is.each_once (rated_low s is_s) (rated_low t is_t)
        (subst (λ l. place_at l s ≡ place_at l t) same equal);
    before = λ p q on_p on_q.
        let low_p : p < length m.places = subst (λ k. p < k) is.rated.count on_p in
        let low_q : q < length m.places = subst (λ k. q < k) is.rated.count on_q in
        rw (same, is.rated.section p low_p, is.rated.section q low_q) (words p q low_p low_q);
  }
