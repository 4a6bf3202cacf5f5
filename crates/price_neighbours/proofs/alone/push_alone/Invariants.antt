use Rattle.price_neighbours.proofs.Distinctness.{vectors_of}
use Rattle.price_neighbours.proofs.Moves.{ArePushed}
use Rattle.price_neighbours.proofs.alone.push_alone.Given as goal

abbrev pub invariant-loop-place : goal.invariant-loop-place
invariant-loop-place g l =
    ArePushed (g.D.Demands.crowd l.fn.demands) l.taken.prices.now l.taken.counts.now l.taken.seats.now (vectors_of l.fn.vectors.items)
    (vectors_of l.vectors.items) l.asked l.place
