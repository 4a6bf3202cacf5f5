use Rattle.std.proofs.Common.{◌≡◌, [], subst, arith, to_z, of_z, w64}
use Rattle.std.specs.Prelude.{IfSome}
use Rattle.std.proofs.lemmas.Int.{ints}
use Rattle.bundle_bounds.specs.declared.prospects.Resource.TheVariants.{Money}
use Rattle.bundle_bounds.specs.Tangents.{IsTangent}
use Rattle.bundle_bounds.proofs.pruning.known_by.Goals as goal

pub recall-requires-clause-known : goal.recall-requires-clause-known
recall-requires-clause-known c = (c.nothing-known.ensures c.args.base.number c.args.limit 0 Money []).high_within

pub returns-in-Some : goal.returns-in-Some
returns-in-Some c = λ rest resource all is.
    let l : to_z w64 (of_z w64 c.args.limit) ≡ c.args.limit = omega (arith, ints) in
    (rw l at c.recall.ensures) rest resource all (subst (λ tangent. IfSome tangent (IsTangent rest resource all)) c.in-Some.is is)
    (c.nothing-known.ensures c.args.base.number c.args.limit rest resource all)

pub returns-in-None : goal.returns-in-None
returns-in-None c = λ rest resource all is. c.nothing-known.ensures c.args.base.number c.args.limit rest resource all
