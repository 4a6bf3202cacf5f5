use Rattle.std.proofs.Common.{ℕ, ◌≡◌, ◌≤◌, ◌∙◌, ◌*◌, length, Bool, true, false, true≢false, to_z, of_z, w64, sym, subst, arith, inr, Some}
use Rattle.std.specs.Prelude.{ℤ, pos, ◌+ℤ◌, ◌<ℤ◌, ◌≤ℤ◌}
use Rattle.std.proofs.lemmas.Int.{ints}
use Rattle.bundle_bounds.specs.declared.nodes.Leaf.{Leaf}
use Rattle.bundle_bounds.specs.declared.nodes.Leaf.TheVariants.{Plain}
use Rattle.bundle_bounds.specs.Courses.{by_course}
use Rattle.bundle_bounds.proofs.Adding.{plain_low}
use Rattle.bundle_bounds.proofs.Limits.{first-append_left, if_first-append_right, if_none-append, if_first-next, if_none-next}
use Rattle.bundle_bounds.proofs.pruning.first_with.Goals as goal

-- a sum that is not told to be below a limit is not below it
not_below : (base limit : ℤ) (plain sum : ℕ) (told : Bool) → plain ≡ sum → ((base +ℤ pos plain) <ℤ limit → told ≡ true) → told ≡ false
    → ¬ ((base +ℤ pos sum) <ℤ limit)
not_below base limit plain sum told same tells not = λ low. true≢false (sym (tells (subst (λ n. (base +ℤ pos n) <ℤ limit) (sym same) low)) ∙ not)

at_least : (a limit : ℤ) → ¬ (a <ℤ limit) → limit ≤ℤ a
at_least a limit not = grind (arith, ints)

pub is_plain_below-requires : goal.is_plain_below-requires
is_plain_below-requires c =
    let ps = c.args.all.now.list.now in
    let sum : ℕ = by_course (λ p. 1000 * p.worth) ps in
    let is : c.args.plain ≡ sum = c.requires.plain in
    let low : sum ≤ 20000000 * length ps = plain_low ps c.args.all.now.modest in
    let few : length ps ≤ 60 = c.args.all.now.few in
    omega arith

pub returns-in-Some-clause-first : goal.returns-in-Some-clause-first
returns-in-Some-clause-first c =
    let l : to_z w64 (of_z w64 c.args.limit) ≡ c.args.limit = omega (arith, ints) in
    inr (
      not_below c.args.base.number c.args.limit c.args.plain _ c.is_plain_below.result c.requires.plain (rw l at c.is_plain_below.ensures.1)
          c.if-is_plain_below.false,
      first-append_left c.args.limit _ _ c.in-Some.leaf (rw l at c.in-Some.ensures.first),
    )

pub returns-in-Some-first_of_resource-clause-first : goal.returns-in-Some-first_of_resource-clause-first
returns-in-Some-first_of_resource-clause-first c =
    let l : to_z w64 (of_z w64 c.args.limit) ≡ c.args.limit = omega (arith, ints) in
    inr (
      not_below c.args.base.number c.args.limit c.args.plain _ c.is_plain_below.result c.requires.plain (rw l at c.is_plain_below.ensures.1)
          c.if-is_plain_below.false,
      if_first-append_right c.args.limit _ _ (Some c.in-Some-first_of_resource.leaf) (rw l at c.in-None.ensures.none)
          (first-append_left c.args.limit _ _ c.in-Some-first_of_resource.leaf (rw l at c.in-Some-first_of_resource.ensures.first)),
    )

pub returns-in-None-first_of_resource-clause-first : goal.returns-in-None-first_of_resource-clause-first
returns-in-None-first_of_resource-clause-first c =
    let l : to_z w64 (of_z w64 c.args.limit) ≡ c.args.limit = omega (arith, ints) in
    let plain : Leaf × ℤ = (Plain, c.args.base.number +ℤ pos (by_course (λ p. 1000 * p.worth) c.args.all.now.list.now)) in
    let not =
    not_below c.args.base.number c.args.limit c.args.plain _ c.is_plain_below.result c.requires.plain (rw l at c.is_plain_below.ensures.1)
    c.if-is_plain_below.false in
    let last = c.first_of_resource-in-None-first_of_resource in
    if_first-next c.args.limit plain _ last.result not
    (if_first-append_right c.args.limit _ _ last.result (rw l at c.in-None.ensures.none)
    (if_first-append_right c.args.limit _ _ last.result (rw l at c.in-None-first_of_resource.ensures.none) (rw l at last.ensures.first)))

pub returns-in-None-first_of_resource-clause-none : goal.returns-in-None-first_of_resource-clause-none
returns-in-None-first_of_resource-clause-none c =
    let l : to_z w64 (of_z w64 c.args.limit) ≡ c.args.limit = omega (arith, ints) in
    let plain : Leaf × ℤ = (Plain, c.args.base.number +ℤ pos (by_course (λ p. 1000 * p.worth) c.args.all.now.list.now)) in
    let not =
    not_below c.args.base.number c.args.limit c.args.plain _ c.is_plain_below.result c.requires.plain (rw l at c.is_plain_below.ensures.1)
    c.if-is_plain_below.false in
    let last = c.first_of_resource-in-None-first_of_resource in
    if_none-next c.args.limit plain _ last.result not
    (if_none-append c.args.limit _ _ last.result (rw l at c.in-None.ensures.none)
    (if_none-append c.args.limit _ _ last.result (rw l at c.in-None-first_of_resource.ensures.none) (rw l at last.ensures.none)))

pub first_of_resource-requires-clause-plain : goal.first_of_resource-requires-clause-plain
first_of_resource-requires-clause-plain c =
    let l : to_z w64 (of_z w64 c.args.limit) ≡ c.args.limit = omega (arith, ints) in
    rw l (at_least _ c.args.limit
    (not_below c.args.base.number c.args.limit c.args.plain (by_course (λ p. 1000 * p.worth) c.args.all.now.list.now) c.is_plain_below.result c.requires.plain
    (rw l at c.is_plain_below.ensures.1) c.if-is_plain_below.false))

pub first_of_resource-requires-in-None-clause-plain : goal.first_of_resource-requires-in-None-clause-plain
first_of_resource-requires-in-None-clause-plain c =
    let l : to_z w64 (of_z w64 c.args.limit) ≡ c.args.limit = omega (arith, ints) in
    rw l (at_least _ c.args.limit
    (not_below c.args.base.number c.args.limit c.args.plain (by_course (λ p. 1000 * p.worth) c.args.all.now.list.now) c.is_plain_below.result c.requires.plain
    (rw l at c.is_plain_below.ensures.1) c.if-is_plain_below.false))

pub first_of_resource-requires-in-None-first_of_resource-clause-plain : goal.first_of_resource-requires-in-None-first_of_resource-clause-plain
first_of_resource-requires-in-None-first_of_resource-clause-plain c =
    let l : to_z w64 (of_z w64 c.args.limit) ≡ c.args.limit = omega (arith, ints) in
    rw l (at_least _ c.args.limit
    (not_below c.args.base.number c.args.limit c.args.plain (by_course (λ p. 1000 * p.worth) c.args.all.now.list.now) c.is_plain_below.result c.requires.plain
    (rw l at c.is_plain_below.ensures.1) c.if-is_plain_below.false))
