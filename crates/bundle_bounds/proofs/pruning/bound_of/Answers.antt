use Rattle.std.proofs.Common.{◌≡◌, to_z, of_z, w64, arith}
use Rattle.std.proofs.lemmas.Int.{ints}
use Rattle.bundle_bounds.proofs.LeafBounds.{of_money, of_credits, of_count}
use Rattle.bundle_bounds.proofs.pruning.bound_of.Goals as goal

pub returns-in-Budget : goal.returns-in-Budget
returns-in-Budget c =
    let r : to_z w64 (of_z w64 c.resource_bound.result) ≡ c.resource_bound.result = omega (arith, ints) in
    rw (r, c.in-Budget.is)
    (of_money c.args.base.number c.args.rests.budget c.args.rests.credits c.args.rests.courses c.args.all.now.list.now c.in-Budget.place c.resource_bound.result
    c.resource_bound.ensures)

pub returns-in-Credits : goal.returns-in-Credits
returns-in-Credits c =
    let r : to_z w64 (of_z w64 c.resource_bound-in-Credits.result) ≡ c.resource_bound-in-Credits.result = omega (arith, ints) in
    rw (r, c.in-Credits.is)
    (of_credits c.args.base.number c.args.rests.budget c.args.rests.credits c.args.rests.courses c.args.all.now.list.now c.in-Credits.place
    c.resource_bound-in-Credits.result c.resource_bound-in-Credits.ensures)

pub returns-in-Number : goal.returns-in-Number
returns-in-Number c =
    let r : to_z w64 (of_z w64 c.resource_bound-in-Number.result) ≡ c.resource_bound-in-Number.result = omega (arith, ints) in
    rw (r, c.in-Number.is)
    (of_count c.args.base.number c.args.rests.budget c.args.rests.credits c.args.rests.courses c.args.all.now.list.now c.in-Number.place c.resource_bound-in-Number.result
    c.resource_bound-in-Number.ensures)
