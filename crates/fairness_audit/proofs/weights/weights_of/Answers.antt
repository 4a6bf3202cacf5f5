use Rattle.std.proofs.Common.{◌≡◌, ◌<◌, ◌≤◌, ◌+◌, ◌-◌, ◌*◌, ◌∙◌, ℕ, length, replicate, slice_index, slice_index_or, slice_set, refl, ap, sym, subst, arith}
use Rattle.std.proofs.lemmas.List.{get_or-replicate, length-set}
use Rattle.std.proofs.lemmas.List.Elements.{All-set}
use Rattle.bundle_rules.specs.Menus.{adjustment_in, section_at}
use Rattle.bundle_rules.specs.Existence.Places.{rating_at-is, section_at-is}
use Rattle.fairness_audit.specs.Weights.{gains, weight_at}
use Rattle.fairness_audit.proofs.Bounds.{weight_written, weights_are}
use Rattle.fairness_audit.proofs.weights.weights_of.Goals as goal

-- nothing is written at first
zeros_few : (n k d : ℕ) → k < n → slice_index_or (replicate n 0) k d ≤ 20000
zeros_few n k d low = subst (λ x. x ≤ 20000) (sym (get_or-replicate n k 0 d low)) (let goal : 0 ≤ 20000 = omega arith in goal)

pub places-init : goal.places-init
places-init c = record { count = refl; few = zeros_few 400; each = λ k low. absurd (omega arith) }

pub places-preserved : goal.places-preserved
places-preserved c =
    let menu = c.args.menu.now in
    let p : ℕ = c.places.place in
    let l : ℕ = length menu.places in
    let e : ℕ = c.len-place-end.result in
    let ends : e ≡ l = c.len-place-end.ensures.value in
    let under : p < e = c.places-test.true in
    let low : p < l = omega arith in
    let few : l ≤ 60 = c.len-place-end.ensures.menu.places.few in
    let r : ℕ = c.from.result in
    let g : ℕ = c.gains.result in
    let rating : r ≡ c.rated-rated.result.now.rating = c.from.ensures in
    let high : c.rated-rated.result.now.rating ≤ 100 = c.rated-rated.ensures.range.rating_high in
    let most : g ≤ 200 * (l - (p + 1)) = c.gains.ensures.few in
    let small : r + g ≤ 20000 = omega arith in
    let at : c.from-in-places.result ≡ section_at menu.places p =
    c.from-in-places.ensures ∙ sym (section_at-is menu.places p c.rated-rated.result.now c.rated-rated.ensures.value) in
    let weight : weight_at menu p ≡ r + g =
    ap (λ x. x + gains (adjustment_in menu.pairs p) (p + 1) (l - (p + 1)))
    (rating_at-is menu.places p c.rated-rated.result.now c.rated-rated.ensures.value ∙ sym rating)
    ∙ ap (λ x. r + x) (sym c.gains.ensures.value) in
    let inside : section_at menu.places p < length c.places.weights = (
    let s : ℕ = c.rated-rated.result.now.section.0 in
    let n : ℕ = length c.places.weights in
    let q : ℕ = section_at menu.places p in
    let same : q ≡ s = section_at-is menu.places p c.rated-rated.result.now c.rated-rated.ensures.value in
    let size : n ≡ 400 = c.places.invariant.count in
    let below : s < 400 = c.rated-rated.ensures.range.section in
    let goal : q < n = omega arith in goal) in
    record {
      count = length-set c.places.weights c.from-in-places.result (r + g) ∙ c.places.invariant.count;
      few = All-set (λ weight. weight ≤ 20000) c.places.weights c.from-in-places.result (r + g) small c.places.invariant.few;
      each = subst (λ (j : ℕ). (k : ℕ) → k < p + 1 → weight_at menu k ≤ slice_index (slice_set c.places.weights j (r + g)) (section_at menu.places k)) (sym at)
          (weight_written menu c.places.weights p (r + g) c.len-place-end.ensures.menu low inside c.places.invariant.each
          (let w : ℕ = weight_at menu p in let v : ℕ = r + g in let is : w ≡ v = weight in let goal : w ≤ v = omega arith in goal));
    }

pub invariant_of-result : goal.invariant_of-result
invariant_of-result c =
    let menu = c.args.menu.now in
    let p : ℕ = c.places.place in
    let l : ℕ = length menu.places in
    let e : ℕ = c.len-place-end.result in
    let ends : e ≡ l = c.len-place-end.ensures.value in
    let over : e ≤ p = omega (arith, c.places-test.false) in
    record {
      weights =
          weights_are menu c.places.weights c.len-place-end.ensures.menu
          (λ k low. c.places.invariant.each k (let b : k < l = low in let goal : k < p = omega arith in goal));
      few = c.places.invariant.few;
    }
