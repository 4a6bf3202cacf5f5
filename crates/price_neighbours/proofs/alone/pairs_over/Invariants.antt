use Rattle.std.proofs.Common.{◌≡◌, map, filter}
use Rattle.std.specs.List.{range_with_len}
use Rattle.price_neighbours.specs.Asked.{is_over, pair_of}
use Rattle.price_neighbours.proofs.alone.pairs_over.Given as goal

abbrev pub invariant-loop-place : goal.invariant-loop-place
invariant-loop-place l = l.pairs.items ≡ map (pair_of l.taken.counts.now) (filter (is_over l.taken.counts.now l.taken.seats.now) (range_with_len 0 l.place))
