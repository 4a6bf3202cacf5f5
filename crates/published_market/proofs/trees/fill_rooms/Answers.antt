use Rattle.std.proofs.Common.{◌<◌, ◌≤◌, ◌+◌, length, arith}
use Rattle.published_market.proofs.trees.fill_rooms.Goals as goal

pub for_each_mut-requires-clause-accepts : goal.for_each_mut-requires-clause-accepts
for_each_mut-requires-clause-accepts g c κs within = λ i p below is.
    let count = g.B.BestBundles.count c.args.bundles.now in
    let places : c.args.first + length c.args.rooms.now ≤ count = c.requires.places in
    let goal : c.args.first + i < count = omega arith in (goal, omega (arith, c.requires.few, below))
