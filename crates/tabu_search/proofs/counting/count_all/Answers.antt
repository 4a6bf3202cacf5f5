use Rattle.std.proofs.Common.{◌≡◌, take, drop, ◌∙◌, length, vec_len, rules}
use Rattle.tabu_search.proofs.Batches.{batch_are, batch_counted}
use Rattle.tabu_search.proofs.counting.count_all.Goals as goal

pub batches-preserved : goal.batches-preserved
batches-preserved g c =
    let long : length c.in_ok-found.found.items ≡ vec_len c.in_ok-found.found = search rules in
    let on =
    batch_counted (g.D.Demands.crowd c.args.demands.now) (g.D.Demands.crowd c.batches.demands) c.args.vectors.now c.next_batch-batch.result.now
    c.batches.counted.items c.in_ok-found.found.items c.append.new.self.items (vec_len c.batches.counted) (vec_len c.in_ok-found.found)
    (vec_len c.append.new.self)
    c.batches.invariant.same c.batches.invariant.counted c.batches.invariant.within (search rules) c.in_ok-found.ensures.value long c.in_ok-append.ensures.len
    c.in_ok-append.ensures.items in
    record { same = c.in_ok-found.ensures.crowd ∙ c.batches.invariant.same; counted = on.0; within = on.1 }

pub counts-requires-clause-prices : goal.counts-requires-clause-prices
counts-requires-clause-prices g c =
    let next : c.next_batch-batch.result.now ≡ take 16 (drop (vec_len c.batches.counted) c.args.vectors.now) = search rules in
    batch_are (g.D.Demands.crowd c.args.demands.now) (g.D.Demands.crowd c.batches.demands) c.args.vectors.now c.next_batch-batch.result.now
    (vec_len c.batches.counted) c.batches.invariant.same next c.requires
