use Rattle.std.proofs.Common.{map}
use Rattle.price_neighbours.proofs.Distinctness.{vectors_of}
use Rattle.tabu_search.proofs.Candidates.{IsBestOf}
use Rattle.tabu_search.proofs.walking.Walk.chosen.Given as goal

abbrev pub invariant-loop-place : goal.invariant-loop-place
invariant-loop-place g l =
    IsBestOf (g.D.Demands.crowd l.fn.demands) l.seats (map (λ counts. counts.items) l.self.window.items) (vectors_of l.vectors.items) l.place l.best
