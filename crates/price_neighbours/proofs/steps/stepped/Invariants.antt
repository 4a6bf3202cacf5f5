use Rattle.std.proofs.Common.{◌≡◌, map, slice_index}
use Rattle.std.specs.List.{range_with_len}
use Rattle.bundle_rules.specs.Demand.{price_in}
use Rattle.price_neighbours.specs.Neighbours.{stepped_price}
use Rattle.price_neighbours.proofs.steps.stepped.Given as goal

abbrev pub invariant-loop-place : goal.invariant-loop-place
invariant-loop-place l =
    l.moved.items
    ≡ map (λ s. record {
      0 = stepped_price l.top.0 (price_in l.taken.prices.now s) (slice_index l.taken.counts.now s) (slice_index l.taken.seats.now s)
          l.step;
    })
    (range_with_len 0 l.place)
