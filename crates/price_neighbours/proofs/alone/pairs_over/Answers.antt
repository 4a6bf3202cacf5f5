use Rattle.std.proofs.Common.{rules, arith, refl, ◌≤◌, ◌<◌, slice_index}
use Rattle.std.proofs.lemmas.Bool.Decides.{nat_tests}
use Rattle.price_neighbours.specs.Asked.{pair_of}
use Rattle.price_neighbours.proofs.Pairs.{pairs_then, pairs_still}
use Rattle.price_neighbours.proofs.alone.pairs_over.Goals as goal

pub loop-place-preserved-then-count-from : goal.loop-place-preserved-then-count-from
loop-place-preserved-then-count-from c =
    let few : slice_index c.args.taken.now.counts.now c.loop-place.place ≤ slice_index c.args.taken.now.seats.now c.loop-place.place = search rules in
    pairs_still c.args.taken.now.counts.now c.args.taken.now.seats.now c.loop-place.place c.loop-place.pairs.items c.loop-place.invariant
    (grind (arith, nat_tests))

pub loop-place-preserved : goal.loop-place-preserved
loop-place-preserved c =
    let many : slice_index c.args.taken.now.seats.now c.loop-place.place < slice_index c.args.taken.now.counts.now c.loop-place.place = search rules in
    pairs_then c.args.taken.now.counts.now c.args.taken.now.seats.now c.loop-place.place c.loop-place.pairs.items c.push.new.self.items
    (pair_of c.args.taken.now.counts.now c.loop-place.place) c.loop-place.invariant (grind (arith, nat_tests)) refl (search rules)
