use Rattle.std.proofs.Common.{rules, ◌≡◌, ◌<◌, ◌≤◌, ◌∙◌, ℕ, List, length, arith, ap, sym, subst, slice_index_or, Fits, to_z, of_z, w16, w32}
use Rattle.std.proofs.lemmas.Int.{ints}
use Rattle.std.specs.Prelude.{option_map}
use Rattle.demand_api.proofs.Parts.{menus_few}
use Rattle.fairness_audit.specs.Views.{row_of, seen_of}
use Rattle.fairness_audit.proofs.Allocated.{as_many, few_so_far, own_feasible, past_content, past_envied, past_itself, row_whole}
use Rattle.fairness_audit.proofs.counting.count_envy.Goals as goal

pub bounds-bundles-place : goal.bounds-bundles-place
bounds-bundles-place c =
    let crowd = c.args.crowd.now in
    let m : ℕ = length crowd.menus.items in
    let n : ℕ = length c.args.bundles.now in
    let many : n ≡ m = as_many crowd c.args.bundles.now c.requires.bundles in
    let p : ℕ = c.from-place.result in
    let s : ℕ = c.args.student.0 in
    let low : s < m = c.requires.student in
    let at : p ≡ s = c.from-place.ensures in
    let goal : p < n = omega arith in goal

pub utility-own-requires : goal.utility-own-requires
utility-own-requires c =
    let crowd = c.args.crowd.now in
    (own_feasible crowd c.args.bundles.now c.requires.bundles c.from-place.result c.index-menu.result.now c.index-bundles-place.result
    (subst (λ n. n < length crowd.menus.items) (sym c.from-place.ensures) c.requires.student) c.index-menu.ensures c.index-bundles-place.is).rated

-- what is read at the student's place
at_student : {X : Type 0} (xs : List X) (x : X) (place student : ℕ) → place ≡ student → x ≡ slice_index_or xs place x → x ≡ slice_index_or xs student x
at_student xs x place student same is = subst (λ p. x ≡ slice_index_or xs p x) same is

pub others-preserved-then-other-place : goal.others-preserved-then-other-place
others-preserved-then-other-place c =
    past_itself c.args.crowd.now c.args.bundles.now c.requires.bundles c.args.student.0 c.index-menu.result.now c.index-bundles-place.result c.requires.student
    (at_student c.args.crowd.now.menus.items c.index-menu.result.now c.from-place.result c.args.student.0 c.from-place.ensures c.index-menu.ensures)
    (at_student c.args.bundles.now c.index-bundles-place.result c.from-place.result c.args.student.0 c.from-place.ensures c.index-bundles-place.is)
    c.utility-own.result c.utility-own.ensures c.others.other (row_of c.others.row) c.others.invariant c.others-test.true
    (c.if-other-place.true ∙ c.from-place.ensures)

pub overflow_cast-student : goal.overflow_cast-student
overflow_cast-student c =
    let m : ℕ = length c.args.crowd.now.menus.items in
    let n : ℕ = length c.args.bundles.now in
    let many : n ≡ m = as_many c.args.crowd.now c.args.bundles.now c.requires.bundles in
    let few : m ≤ 2000 = menus_few c.args.crowd.now in
    let k : ℕ = c.others.other in
    let low : k < n = c.others-test.true in
    let goal : Fits w16 k = omega arith in goal

pub others-preserved-in_default : goal.others-preserved-in_default
others-preserved-in_default c =
    let back : to_z w32 (of_z w32 c.utility-own.result) ≡ c.utility-own.result = omega (arith, ints) in
    past_content c.args.crowd.now c.args.bundles.now c.requires.bundles c.args.student.0 c.index-menu.result.now c.index-bundles-place.result c.requires.student
    (at_student c.args.crowd.now.menus.items c.index-menu.result.now c.from-place.result c.args.student.0 c.from-place.ensures c.index-menu.ensures)
    (at_student c.args.bundles.now c.index-bundles-place.result c.from-place.result c.args.student.0 c.from-place.ensures c.index-bundles-place.is)
    c.utility-own.result c.utility-own.ensures c.others.other (row_of c.others.row) c.others.invariant c.others-test.true c.index-bundles-other.result
    c.index-bundles-other.is (sym (rw (back, c.weights_of-weights.ensures) at c.sight.ensures) ∙ ap (option_map seen_of) c.in_default.is)

pub index-requires : goal.index-requires
index-requires c =
    let m : ℕ = length c.args.crowd.now.menus.items in
    let n : ℕ = length c.args.bundles.now in
    let b : ℕ = length c.args.crowd.now.budgets.items in
    let v : ℕ = c.args.crowd.now.budgets.len in
    let many : n ≡ m = as_many c.args.crowd.now c.args.bundles.now c.requires.bundles in
    let same : b ≡ m = c.args.crowd.now.same in
    let whole : v ≡ b = c.args.crowd.now.budgets.ok.0 in
    let k : ℕ = c.others.other in
    let low : k < n = c.others-test.true in
    let goal : k < v = omega arith in goal

pub with-row-requires : goal.with-row-requires
with-row-requires c = record {
  few =
      few_so_far c.args.crowd.now c.args.bundles.now c.requires.bundles c.args.student.0 c.index-menu.result.now c.index-bundles-place.result c.requires.student
      (at_student c.args.crowd.now.menus.items c.index-menu.result.now c.from-place.result c.args.student.0 c.from-place.ensures c.index-menu.ensures)
      (at_student c.args.bundles.now c.index-bundles-place.result c.from-place.result c.args.student.0 c.from-place.ensures c.index-bundles-place.is)
      c.utility-own.result c.utility-own.ensures c.others.other (row_of c.others.row) c.others.invariant c.others-test.true;
}

pub others-preserved : goal.others-preserved
others-preserved c =
    let back : to_z w32 (of_z w32 c.utility-own.result) ≡ c.utility-own.result = omega (arith, ints) in
    c.with-row.ensures
    ∙ past_envied c.args.crowd.now c.args.bundles.now c.requires.bundles c.args.student.0 c.index-menu.result.now c.index-bundles-place.result c.requires.student
    (at_student c.args.crowd.now.menus.items c.index-menu.result.now c.from-place.result c.args.student.0 c.from-place.ensures c.index-menu.ensures)
    (at_student c.args.bundles.now c.index-bundles-place.result c.from-place.result c.args.student.0 c.from-place.ensures c.index-bundles-place.is)
    c.utility-own.result c.utility-own.ensures c.others.other (row_of c.others.row) c.others.invariant c.others-test.true c.index-bundles-other.result
    c.index-bundles-other.is (seen_of c.in-Some.seen) c.index-budget.result.now c.index.result.now (λ here. c.if-other-place.false (here ∙ sym c.from-place.ensures))
    (sym (rw (back, c.weights_of-weights.ensures) at c.sight.ensures) ∙ ap (option_map seen_of) c.in-Some.is)
    (at_student c.args.crowd.now.budgets.items c.index-budget.result.now c.from-place.result c.args.student.0 c.from-place.ensures c.index-budget.ensures)
    c.index.ensures

pub returns : goal.returns
returns c =
    row_whole c.args.crowd.now c.args.bundles.now c.requires.bundles c.args.student.0 c.index-menu.result.now c.index-bundles-place.result c.requires.student
    (at_student c.args.crowd.now.menus.items c.index-menu.result.now c.from-place.result c.args.student.0 c.from-place.ensures c.index-menu.ensures)
    (at_student c.args.bundles.now c.index-bundles-place.result c.from-place.result c.args.student.0 c.from-place.ensures c.index-bundles-place.is)
    c.utility-own.result c.utility-own.ensures c.others.other (row_of c.others.row) c.others.invariant (search rules)
