use Rattle.std.proofs.Common.{◌≡◌, ◌∙◌, length, ap, sym, arith}
use Rattle.bundle_rules.specs.Demand.{price_in}
use Rattle.price_neighbours.proofs.Moves.{length_counts, counts_few}
use Rattle.tabu_search.specs.Visits.{counts_at}
use Rattle.tabu_search.proofs.Batches.{counted_one}
use Rattle.tabu_search.proofs.visiting.visit_at.Given.{Over}
use Rattle.tabu_search.proofs.visiting.visit_at.Goals as goal
use Rattle.tabu_search.proofs.visiting.visit_at.Goals.{After-deref-4}

-- the counts are those at the prices
counted : (g : Over) (c : After-deref-4 g) → c.in_ok-counts.counts.items ≡ counts_at (g.D.Demands.crowd c.args.demands.now) c.args.prices.items
counted g c =
    let crowd = g.D.Demands.crowd c.args.demands.now in
    c.in_ok-counts.ensures.items_if_clones_equal (λ x y is. is) ∙ c.deref-2.ensures.value
    ∙ counted_one crowd c.in_ok-to_vec.field-0.items c.in_ok-found.found.items c.index.result.now c.in_ok-found.ensures.value c.index.ensures
    ∙ ap (counts_at crowd) (c.in_ok-to_vec.ensures.items_if_clones_equal (λ x y is. is) ∙ c.deref.ensures.value)

-- and so as many as there are sections
long : (g : Over) (c : After-deref-4 g) → length c.in_ok-counts.counts.items ≡ (g.D.Demands.crowd c.args.demands.now).sections
long g c = length_counts (g.D.Demands.crowd c.args.demands.now) (price_in c.args.prices.items) c.in_ok-counts.counts.items (counted g c)

pub error-error-requires-clause-counts : goal.error-error-requires-clause-counts
error-error-requires-clause-counts g c =
    rw c.deref-3.ensures.value
    (counts_few (g.D.Demands.crowd c.args.demands.now) (price_in c.args.prices.items) c.in_ok-counts.counts.items c.requires.seated.known (counted g c))

pub error-error-requires-clause-few : goal.error-error-requires-clause-few
error-error-requires-clause-few g c = rw c.deref-3.ensures.value (let size = long g c in omega (arith, size, c.requires.seated.known.sections))

pub error-error-requires-clause-seats : goal.error-error-requires-clause-seats
error-error-requires-clause-seats g c = c.requires.seated.each ∙ sym (long g c) ∙ ap length (sym c.deref-3.ensures.value)

pub error-error-requires-clause-prices : goal.error-error-requires-clause-prices
error-error-requires-clause-prices g c =
    ap length c.deref-4.ensures.value ∙ c.requires.prices.same ∙ sym (long g c) ∙ ap length (sym c.deref-3.ensures.value)
