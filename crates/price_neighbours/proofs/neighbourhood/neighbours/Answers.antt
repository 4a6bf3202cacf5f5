use Rattle.std.proofs.Common.{◌≡◌, ◌∙◌, arith, sym, subst, IfOk}
use Rattle.bundle_rules.specs.Demand.{price_in}
use Rattle.price_neighbours.specs.Distinct.{once, same_prices}
use Rattle.price_neighbours.specs.Neighbours.{neighbours}
use Rattle.price_neighbours.proofs.Distinctness.{vectors_of}
use Rattle.price_neighbours.proofs.Moves.{length_counts, counts_few}
use Rattle.price_neighbours.proofs.Neighbourhoods.{all_neighbours, found_are_prices}
use Rattle.price_neighbours.proofs.neighbourhood.neighbours.Goals as goal

pub invariant_of-taken : goal.invariant_of-taken
invariant_of-taken g c = record {
  sections =
      let known = c.top-top.ensures.crowd in
      omega (arith, known.sections, c.requires.prices.same);
  counts_each =
      length_counts (g.D.Demands.crowd c.args.demands.now) (price_in c.args.prices.now) c.args.counts.now c.requires.counts ∙ sym c.requires.prices.same;
  seats_each = c.requires.seats ∙ sym c.requires.prices.same;
  few = counts_few (g.D.Demands.crowd c.args.demands.now) (price_in c.args.prices.now) c.args.counts.now c.top-top.ensures.crowd c.requires.counts;
}

pub returns-clause-value : goal.returns-clause-value
returns-clause-value g c =
    let kept : once same_prices (vectors_of c.push_alone.new.vectors.items)
    ≡ neighbours (g.D.Demands.crowd c.args.demands.now) c.args.seats.now c.args.steps.now c.args.prices.now =
    all_neighbours (g.D.Demands.crowd c.args.demands.now) c.args.seats.now c.args.counts.now c.args.steps.now c.args.prices.now c.top-top.result.0
    (vectors_of c.push_stepped.new.vectors.items) (vectors_of c.push_alone.new.vectors.items)
    c.requires.counts c.requires.prices.same c.top-top.ensures.value (rw c.new-vectors.ensures.items at c.in_ok-push_stepped.ensures)
    c.in_ok-push_alone.ensures.value in
    subst (λ l. IfOk c.once.result (λ found. vectors_of found.items ≡ l)) kept c.once.ensures

pub returns-clause-prices : goal.returns-clause-prices
returns-clause-prices g c =
    found_are_prices (g.D.Demands.crowd c.args.demands.now) c.args.seats.now c.args.steps.now c.args.prices.now c.once.result c.requires.prices
    (returns-clause-value g c)
