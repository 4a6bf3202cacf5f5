use Rattle.std.proofs.Common.{◌≡◌, ◌<◌, ◌≤◌, ◌+◌, ◌∙◌, ℕ, length, refl, sym, subst, arith, inl, inr}
use Rattle.std.proofs.lemmas.Bool.{cases_eq, false≢true, true≢false}
use Rattle.std.proofs.lemmas.List.{length-map}
use Rattle.bundle_rules.specs.Bundles.{sections_of}
use Rattle.bundle_rules.specs.Menus.{wishes_of}
use Rattle.bundle_rules.specs.Wishes.{IsFeasible}
use Rattle.fairness_audit.specs.Allocations.{allocation_of, bundle_at, menu_at}
use Rattle.fairness_audit.proofs.Allocated.{as_many, bundle_is, count_is, menu_is, own_feasible}
use Rattle.fairness_audit.proofs.allocation.is_allocation.Goals as goal

pub returns-then-bundles-len : goal.returns-then-bundles-len
returns-then-bundles-len c = (
  (λ yes_so. absurd (false≢true yes_so)),
  (λ are. absurd
      (c.if-bundles-len.true (as_many c.args.crowd.now c.args.bundles.now are ∙ sym c.args.crowd.now.menus.ok.0 ∙ sym c.len.ensures))),
)

pub returns-then-not-feasible : goal.returns-then-not-feasible
returns-then-not-feasible c =
    let m : ℕ = length c.args.crowd.now.menus.items in
    let n : ℕ = length c.args.bundles.now in
    let many : n ≡ m = c.if-bundles-len.false ∙ c.len.ensures ∙ c.args.crowd.now.menus.ok.0 in
    let k : ℕ = c.students.place in
    let low : k < n = c.students-test.true in (
      (λ yes_so. absurd (false≢true yes_so)),
      (λ are. absurd (true≢false (sym (c.feasible.ensures.1 (own_feasible c.args.crowd.now c.args.bundles.now are c.students.place c.index.result.now c.index-bundles-place.result
          (let goal : k < m = omega arith in goal) c.index.ensures c.index-bundles-place.is)) ∙ c.if-not-feasible.true))),
    )

pub students-preserved : goal.students-preserved
students-preserved c = λ i below.
    let m : ℕ = length c.args.crowd.now.menus.items in
    let n : ℕ = length c.args.bundles.now in
    let many : n ≡ m = c.if-bundles-len.false ∙ c.len.ensures ∙ c.args.crowd.now.menus.ok.0 in
    let k : ℕ = c.students.place in
    let low : k < n = c.students-test.true in
    let inside : k < m = omega arith in
    let a = allocation_of c.args.crowd.now c.args.bundles.now in
    let here : IsFeasible (wishes_of (menu_at a k)) (bundle_at a k) =
    subst (λ menu. IsFeasible (wishes_of menu) (bundle_at a k))
    (sym (menu_is c.args.crowd.now c.args.bundles.now k c.index.result.now inside c.index.ensures))
    (subst (IsFeasible (wishes_of c.index.result.now))
    (sym (bundle_is c.args.crowd.now c.args.bundles.now k c.index-bundles-place.result low c.index-bundles-place.is))
    (c.feasible.ensures.0 c.if-not-feasible.false)) in
    elim (cases_eq i k) [
      | inl same ↦ subst (λ j. IsFeasible (wishes_of (menu_at a j)) (bundle_at a j)) (sym same) here
      | inr other ↦ c.students.invariant i (let b : i < k + 1 = below in omega arith)
    ]

pub returns : goal.returns
returns c =
    let n : ℕ = length c.args.bundles.now in
    let m : ℕ = length c.args.crowd.now.menus.items in
    let many : n ≡ m = c.if-bundles-len.false ∙ c.len.ensures ∙ c.args.crowd.now.menus.ok.0 in
    let k : ℕ = c.students.place in
    let whole : n ≤ k = omega (arith, c.students-test.false) in
    let counted = count_is c.args.crowd.now c.args.bundles.now in (
      (λ yes_so. record {
        each = length-map c.args.bundles.now sections_of ∙ many ∙ sym counted;
        feasible = λ i low. c.students.invariant i (let l : i < m = subst (λ j. i < j) counted low in omega arith);
      }),
      (λ are. refl),
    )
