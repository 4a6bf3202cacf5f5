use Rattle.std.proofs.Common.{◌≡◌, arith, to_z, of_z, w64}
use Rattle.std.proofs.lemmas.Int.{ints}
use Rattle.bundle_bounds.proofs.pruning.recall.Goals as goal

pub returns : goal.returns
returns c = λ rest resource all tangent known.
    let l : to_z w64 (of_z w64 c.args.limit) ≡ c.args.limit = omega (arith, ints) in
    c.learn.ensures c.args.base.number c.args.limit rest resource all known tangent.here tangent.after (rw l at c.margin-above.ensures.above)
