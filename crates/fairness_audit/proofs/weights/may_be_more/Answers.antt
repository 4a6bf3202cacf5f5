use Rattle.std.proofs.Common.{◌≡◌, ◌∙◌, ℕ, ap, subst, arith, to_z, of_z, w64, slice_index, rules}
use Rattle.std.specs.Prelude.{ℤ, pos, ◌≤ℤ◌, int_lt, false}
use Rattle.std.proofs.lemmas.Int.{ints}
use Rattle.market_units.specs.Totals.{total}
use Rattle.bundle_rules.specs.Bundles.{sections_of}
use Rattle.fairness_audit.proofs.Bounds.{not_more}
use Rattle.fairness_audit.proofs.weights.may_be_more.Goals as goal

not_less : (a b : ℤ) → int_lt a b ≡ false → b ≤ℤ a
not_less a b h = grind (arith, ints)

pub returns : goal.returns
returns c = λ less.
    let f : ℤ = c.from.result in
    let o : ℤ = c.from-2.result in
    let n : ℕ = c.sum_of.result in
    let m : ℕ = total (slice_index c.args.weights.now.each) (sections_of c.args.bundle.now) in
    let one : to_z w64 (of_z w64 c.from.result) ≡ c.from.result = omega (arith, ints) in
    let two : to_z w64 (of_z w64 c.from-2.result) ≡ c.from-2.result = omega (arith, ints) in
    let low : f ≤ℤ o = not_less o f (rw (one, two) at less) in
    let summed : f ≡ pos n = c.from.ensures in
    let told : n ≡ m = c.sum_of.ensures.value ∙ ap (total (slice_index c.args.weights.now.each)) c.sections.ensures.value in
    let own : o ≡ c.args.own = search rules in
    not_more c.args.weights.now.menu.now c.args.weights.now.each c.args.weights.now.weights c.args.own (sections_of c.args.bundle.now) c.sections.ensures.bundle.ascending
    (subst (λ z. pos m ≤ℤ z) own (subst (λ k. pos k ≤ℤ o) told (subst (λ z. z ≤ℤ o) summed low)))
