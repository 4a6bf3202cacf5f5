use Rattle.std.proofs.Common.{◌≡◌, ◌≤◌, ◌-◌, map, take, length, vec_len}
use Rattle.tabu_search.specs.Visits.{counts_at}
use Rattle.tabu_search.proofs.counting.count_all.Given as goal

abbrev pub invariant-batches : goal.invariant-batches
invariant-batches g l = record {
  same : g.D.Demands.crowd l.demands ≡ g.D.Demands.crowd l.fn.demands;
  counted : map (λ counts. counts.items) l.counted.items
      ≡ map (λ vector. counts_at (g.D.Demands.crowd l.fn.demands) vector.items) (take (vec_len l.counted) l.vectors);
  within : vec_len l.counted ≤ length l.vectors;
}

abbrev pub decreases-batches : goal.decreases-batches
decreases-batches g l = length l.vectors - vec_len l.counted
