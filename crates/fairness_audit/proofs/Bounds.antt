-- What is seen in a bundle is worth at most the weights of its sections.
use Rattle.std.proofs.Common.{◌≡◌, ◌≢◌, ◌<◌, ◌≤◌, ◌+◌, ◌-◌, ◌+ℤ◌, ℕ, zero, suc, true, false, List, [], ◌∷◌, length, map, slice_index, slice_set, sym, subst, arith, inl, inr}
use Rattle.std.specs.Prelude.{ℤ, pos, ◌≤ℤ◌, int_lt}
use Rattle.std.proofs.lemmas.Bool.{cases_eq}
use Rattle.std.proofs.lemmas.Int.{ints}
use Rattle.std.proofs.lemmas.List.{get_or-set_other, get_or-set_same}
use Rattle.market_units.specs.Totals.{signed_total, total}
use Rattle.bundle_rules.specs.declared.menu.Rated.{Rated}
use Rattle.bundle_rules.specs.Menus.{IsMenu, MenuData, adjustment_in, place_in, rating_at, section_at, wishes_of, worth}
use Rattle.market_units.specs.Members.{has}
use Rattle.bundle_rules.specs.Sets.{IsAscending}
use Rattle.bundle_rules.specs.Wishes.{AllRated, Wishes, adjustments, utility}
use Rattle.bundle_rules.specs.Existence.Members.{has-above, has-cases, has-here, has-there}
use Rattle.bundle_rules.specs.Existence.Places.{rated_on_menu, section_at-place_in}
use Rattle.bundle_rules.proofs.BestValue.{best-is}
use Rattle.bundle_rules.proofs.Parts.{total_part}
use Rattle.bundle_rules.proofs.PlacesFirst.{place_in-rises, section_at-rises}
use Rattle.fairness_audit.specs.Envy.{is_more, seen}
use Rattle.bundle_bounds.specs.Opens.{above_zero}
use Rattle.fairness_audit.specs.Weights.{AreWeights, gains, weight_at}
use Rattle.bundle_bounds.proofs.Gains.{at_most_above}

-- ---- what weights tell

module _ (w : Wishes) (weights : List ℕ) (are : AreWeights w weights) where
  worth_bound : (c : List ℕ) → IsAscending c → AllRated w c → utility w c ≤ℤ pos (total (slice_index weights) c)
  worth_bound [] up rated = omega (arith, ints)
  worth_bound (s ∷ ss) up rated =
      let a : ℤ = pos (w.rating s) +ℤ adjustments w s ss in
      let b : ℤ = utility w ss in
      let m : ℕ = slice_index weights s in
      let n : ℕ = total (slice_index weights) ss in
      let first : a ≤ℤ pos m = are s ss up rated in
      let rest : b ≤ℤ pos n = worth_bound ss up.1 (λ t is. rated t (has-there s ss t is)) in
      let goal : (a +ℤ b) ≤ℤ pos (m + n) = omega (arith, ints) in goal

-- a bundle in which nothing can be worth more
pub not_more : (menu : MenuData) (weights : List ℕ) → AreWeights (wishes_of menu) weights → (own : ℤ) (bundle : List ℕ) → IsAscending bundle
    → pos (total (slice_index weights) bundle) ≤ℤ own → is_more menu own bundle ≡ false
not_more menu weights are own bundle up high =
    let best = best-is menu (λ s. 0) 0 (has bundle) in
    let x : ℤ = worth menu (seen menu bundle) in
    let n : ℕ = total (slice_index weights) (seen menu bundle) in
    let m : ℕ = total (slice_index weights) bundle in
    let first : x ≤ℤ pos n = worth_bound (wishes_of menu) weights are (seen menu bundle) best.choice.feasible.set best.choice.feasible.rated in
    let less : n ≤ m = total_part (slice_index weights) (seen menu bundle) bundle best.choice.feasible.set up best.choice.within in
    let most : pos m ≤ℤ own = high in
    let low : x ≤ℤ own = omega (arith, ints) in
    not_below own x low
  where
    not_below : (a b : ℤ) → b ≤ℤ a → int_lt a b ≡ false
    not_below a b low = grind (arith, ints)

-- ---- the weights of a menu

module _ (places : List Rated) (up : IsAscending (map (λ rated. rated.section.0) places)) (f : ℕ → ℤ) where
  -- adjustments with sections at so many places add no more than the gains there
  within_gains : (count first : ℕ) (ss : List ℕ) → IsAscending ss
      → ((s : ℕ) → has ss s ≡ true → (place_in places s < length places) × (first ≤ place_in places s) × (place_in places s < first + count))
      → signed_total (λ t. f (place_in places t)) ss ≤ℤ pos (gains f first count)
  within_gains count first [] rises on = let n : ℕ = gains f first count in let goal : pos 0 ≤ℤ pos n = omega (arith, ints) in goal
  within_gains zero first (s ∷ ss) rises on =
      (let here = on s (has-here s ss) in let p : ℕ = place_in places s in let low : first ≤ p = here.1 in let high : p
      < first + 0 = here.2 in absurd (omega arith))
  within_gains (suc count) first (s ∷ ss) rises on =
      let here = on s (has-here s ss) in
      let p : ℕ = place_in places s in
      let low : first ≤ p = here.1 in
      let g : ℕ = above_zero (f first) in
      let n : ℕ = gains f (first + 1) count in
      elim (cases_eq first p) [
        | inl same ↦
            let a : ℤ = f p in
            let b : ℤ = signed_total (λ t. f (place_in places t)) ss in
            let one : a ≤ℤ pos g = subst (λ q. f q ≤ℤ pos (above_zero (f first))) same (at_most_above (f first)) in
            let rest : b ≤ℤ pos n = within_gains count (first + 1) ss rises.1 (λ t is.
            let there = on t (has-there s ss t is) in
            let q : ℕ = place_in places t in
            let past : p < q = place_in-rises places s t up here.0 there.0 (has-above s ss t rises.0 is) in
            let high : q < first + suc count = there.2 in
            (there.0, (let goal : first + 1 ≤ q = omega arith in goal), (let goal : q < first + 1 + count = omega arith in goal))) in
            (let goal : (a +ℤ b) ≤ℤ pos (g + n) = omega (arith, ints) in goal)
        | inr apart ↦
            let later : first + 1 ≤ p = omega arith in
            let x : ℤ = signed_total (λ t. f (place_in places t)) (s ∷ ss) in
            let rest : x ≤ℤ pos n = within_gains count (first + 1) (s ∷ ss) rises (λ t is.
            let there = on t is in
            let q : ℕ = place_in places t in
            let high : q < first + suc count = there.2 in
            let past : first + 1 ≤ q = elim (has-cases s ss t is) [
              | inl same ↦ subst (λ u. first + 1 ≤ place_in places u) same later
              | inr behind ↦ (let over : p < q = place_in-rises places s t up here.0 there.0 (has-above s ss t rises.0 behind) in omega arith)
            ] in
            (there.0, past, (let goal : q < first + 1 + count = omega arith in goal))) in
            (let goal : x ≤ℤ pos (g + n) = omega (arith, ints) in goal)
      ]

-- numbers that are at least the weights of the places are weights
pub weights_are : (menu : MenuData) (weights : List ℕ) → IsMenu menu
    → ((k : ℕ) → k < length menu.places → weight_at menu k ≤ slice_index weights (section_at menu.places k)) → AreWeights (wishes_of menu) weights
unfolding wishes_of
weights_are menu weights is each s later up rated =
    let k : ℕ = place_in menu.places s in
    let l : ℕ = length menu.places in
    let on : k < l = rated_on_menu menu.places k (rated s (has-here s later)) in
    let r : ℕ = rating_at menu.places k in
    let g : ℕ = gains (adjustment_in menu.pairs k) (k + 1) (l - (k + 1)) in
    let m : ℕ = slice_index weights s in
    let high : r + g ≤ m = subst (λ t. weight_at menu k ≤ slice_index weights t) (section_at-place_in menu.places s on) (each k on) in
    let a : ℤ = signed_total (λ t. adjustment_in menu.pairs k (place_in menu.places t)) later in
    let added : a ≤ℤ pos g = within_gains menu.places is.places.ascending (adjustment_in menu.pairs k) (l - (k + 1)) (k + 1) later up.1 (λ t in_it.
    let q : ℕ = place_in menu.places t in
    let there : q < l = rated_on_menu menu.places q (rated t (has-there s later t in_it)) in
    let past : k < q = place_in-rises menu.places s t is.places.ascending on there (has-above s later t up.0 in_it) in
    (there, (let goal : k + 1 ≤ q = omega arith in goal), (let goal : q < k + 1 + (l - (k + 1)) = omega arith in goal))) in
    let goal : (pos r +ℤ a) ≤ℤ pos m = omega (arith, ints) in goal

-- the weight of one more place is written
pub weight_written : (menu : MenuData) (weights : List ℕ) (p value : ℕ) → IsMenu menu → p < length menu.places → section_at menu.places p < length weights
    → ((k : ℕ) → k < p → weight_at menu k ≤ slice_index weights (section_at menu.places k)) → weight_at menu p ≤ value
    → (k : ℕ) → k < p + 1 → weight_at menu k ≤ slice_index (slice_set weights (section_at menu.places p) value) (section_at menu.places k)
weight_written menu weights p value is low inside each high k below = elim (cases_eq k p) [
  | inl same ↦
      subst (λ j. weight_at menu j ≤ slice_index (slice_set weights (section_at menu.places p) value) (section_at menu.places j)) (sym same)
      (subst (λ n. weight_at menu p ≤ n) (sym (get_or-set_same weights (section_at menu.places p) value 0 inside)) high)
  | inr other ↦
      let earlier : k < p = omega arith in
      let rises : section_at menu.places k < section_at menu.places p = section_at-rises menu.places k p is.places.ascending earlier low in
      let apart : section_at menu.places k ≢ section_at menu.places p = λ e. absurd (omega arith) in
      subst (λ n. weight_at menu k ≤ n) (sym (get_or-set_other weights (section_at menu.places p) (section_at menu.places k) value 0 apart)) (each k earlier)
]
