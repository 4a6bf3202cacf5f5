use Rattle.std.proofs.Common.{◌≡◌, arith, to_z, of_z, w64}
use Rattle.std.proofs.lemmas.Int.{ints}
use Rattle.bundle_bounds.proofs.pruning.is_below.Goals as goal

pub returns-then-price-lt20000000-clause-known : goal.returns-then-price-lt20000000-clause-known
returns-then-price-lt20000000-clause-known c =
    let l : to_z w64 (of_z w64 c.args.limit) ≡ c.args.limit = omega (arith, ints) in
    c.learn.ensures c.args.base.number c.args.limit c.args.left.rest c.args.left.resource c.args.all.now.list.now c.requires.known c.at_two_prices-sum.ensures.here
    c.at_two_prices-sum.ensures.after (rw l at c.margin.ensures.above)
