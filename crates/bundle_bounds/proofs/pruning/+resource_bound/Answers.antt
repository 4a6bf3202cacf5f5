use Rattle.std.proofs.Common.{◌≡◌, ◌∷◌, ◌∙◌, List, subst, sym, get_or, take, drop, ◌-◌, length, to_z, of_z, w64, arith}
use Rattle.std.specs.Prelude.{ℤ}
use Rattle.std.proofs.lemmas.Int.{ints}
use Rattle.plain_facts.proofs.Lists.{first_rest}
use Rattle.bundle_bounds.specs.declared.prospects.Prospect.{Prospect}
use Rattle.bundle_bounds.specs.Bounds.{leaf_of, resource_bounds, HasBound}
use Rattle.bundle_bounds.proofs.Steps.{no_prospect}
use Rattle.bundle_bounds.proofs.LeafBounds.{bound_later}
use Rattle.bundle_bounds.proofs.pruning.+resource_bound.Goals as goal

pub returns-else-has_bound_at : goal.returns-else-has_bound_at
returns-else-has_bound_at t c =
    let ps = c.args.some.now in
    let all = c.args.all.now.list.now in
    let leaf = leaf_of c.args.resource c.args.place in
    let p = get_or ps 0 no_prospect in
    let rest = take (length ps - 1) (drop 1 ps) in
    let split : ps ≡ p ∷ rest = first_rest ps no_prospect c.in-len1-up.len_at_least in
    let r : to_z w64 (of_z w64 c.resource_bound.result) ≡ c.resource_bound.result = omega (arith, ints) in
    let later : (x : ℤ) → HasBound (resource_bounds c.args.base.number c.args.rest c.args.resource all rest) leaf x
    → HasBound (resource_bounds c.args.base.number c.args.rest c.args.resource all rest) leaf c.resource_bound.result =
    c.resource_bound.ensures in
    rw r (subst (λ (l : List Prospect). (x : ℤ) → HasBound (resource_bounds c.args.base.number c.args.rest c.args.resource all l) leaf x → HasBound (resource_bounds c.args.base.number c.args.rest c.args.resource all l) leaf c.resource_bound.result) (sym split)
    (bound_later c.args.base.number c.args.rest c.args.resource all p rest c.args.place c.resource_bound.result (sym c.has_bound_at.ensures ∙ c.if-has_bound_at.false) later))
