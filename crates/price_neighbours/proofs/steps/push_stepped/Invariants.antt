use Rattle.std.proofs.Common.{◌≡◌, ◌++◌, map, slice_index, take}
use Rattle.price_neighbours.specs.Neighbours.{stepped}
use Rattle.price_neighbours.proofs.steps.push_stepped.Given as goal

abbrev pub invariant-loop-step : goal.invariant-loop-step
invariant-loop-step l =
    map (λ vector. vector.items) l.vectors.items
    ≡ map (λ vector. vector.items) l.initial.vectors.items ++ map (stepped l.top.0 (slice_index l.taken.counts.now) l.taken.seats.now l.taken.prices.now)
    (take l.step-index l.steps)
