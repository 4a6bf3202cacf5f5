use Rattle.std.proofs.Common.{◌≡◌, ◌∙◌, ap, arith, length, sym}
use Rattle.bundle_rules.specs.Demand.{price_in}
use Rattle.demand_api.specs.Crowds.{counts, demands}
use Rattle.demand_text.proofs.TakenFacts.{counts_long, cut_prices, held_bundles, held_counts, taken_by_crowd, taken_whole}
use Rattle.demand_text.proofs.taking.Taken.at.Goals as goal

pub take-requires-after_bounds : goal.take-requires-after_bounds
take-requires-after_bounds g c κs within =
    rw c.deref.ensures.value
    (cut_prices (g.D.Demands.crowd c.args.demands.now) c.args.prices.now c.in_ok-asked.asked.items c.top.result.0 c.top.ensures.value c.in_ok-asked.ensures
    c.requires.prices)

pub error-error-requires-clause-few : goal.error-error-requires-clause-few
error-error-requires-clause-few g c =
    let long : length c.in_ok-counts.counts.items ≡ length c.args.seats.now =
    ap length c.in_ok-counts.ensures.each ∙ counts_long c.in_ok-held.held.bundles (length c.args.seats.now) in
    rw c.deref-2.ensures.value (omega (arith, long, c.requires.seats, c.in_ok-held.ensures.known.sections))

pub error-error-requires-clause-seats : goal.error-error-requires-clause-seats
error-error-requires-clause-seats g c =
    rw c.deref-2.ensures.value (sym (ap length c.in_ok-counts.ensures.each ∙ counts_long c.in_ok-held.held.bundles (length c.args.seats.now)))

pub error-error-requires-clause-prices : goal.error-error-requires-clause-prices
error-error-requires-clause-prices g c =
    rw c.deref-2.ensures.value
    (c.requires.prices ∙ sym c.requires.seats
    ∙ sym (ap length c.in_ok-counts.ensures.each ∙ counts_long c.in_ok-held.held.bundles (length c.args.seats.now)))

pub returns-clause-value : goal.returns-clause-value
returns-clause-value g c =
    let crowd = g.D.Demands.crowd c.args.demands.now in
    let are : c.in_ok-held.held.bundles ≡ demands (g.D.Demands.crowd c.args.demands.now) (price_in c.args.prices.now) =
    held_bundles crowd c.args.prices.now c.in_ok-asked.asked.items c.in_ok-held.held c.top.result.0 c.top.ensures.value c.in_ok-asked.ensures
    (c.in_ok-held.ensures.prices ∙ c.deref.ensures.value) c.in_ok-held.ensures.bundles in
    let found : c.in_ok-counts.counts.items ≡ counts (g.D.Demands.crowd c.args.demands.now) (price_in c.args.prices.now) =
    held_counts crowd c.args.prices.now c.in_ok-held.held.bundles c.in_ok-counts.counts.items (length c.args.seats.now) are c.in_ok-counts.ensures.each
    c.requires.seats in
    taken_whole crowd c.args.seats.now c.args.prices.now c.in_ok-held.held.bundles c.in_ok-counts.counts.items c.error-error.result are found
    (rw c.deref-2.ensures.value at c.error-error.ensures)

pub returns-clause-by : goal.returns-clause-by
returns-clause-by g c = taken_by_crowd (g.D.Demands.crowd c.args.demands.now) c.args.seats.now c.args.prices.now _ (returns-clause-value g c)
