use Rattle.std.proofs.Common.{◌≡◌, ◌≤◌, ◌<◌, ◌∙◌, length, arith, rules, slice_index}
use Rattle.bundle_rules.specs.Demand.{price_in}
use Rattle.demand_api.proofs.Halving.{price_at}
use Rattle.price_neighbours.proofs.Pairs.{pairs_few, pairs_sections, asked_few}
use Rattle.price_neighbours.proofs.Moves.{length_counts, asked_at, pushed_over, pushed_free, pushed_full, pushed_unpaid, vector_pushed}
use Rattle.price_neighbours.proofs.alone.push_alone.Goals as goal

pub least_prices-requires-clause-few : goal.least_prices-requires-clause-few
least_prices-requires-clause-few g c =
    pairs_few c.args.taken.now.counts.now c.args.taken.now.seats.now (length c.args.taken.now.counts.now) c.in_ok-pairs.pairs.items c.deref.result.now
    c.deref.ensures.value
    c.in_ok-pairs.ensures (omega (arith, c.args.taken.now.counts_each, c.args.taken.now.sections))

pub least_prices-requires-clause-sections : goal.least_prices-requires-clause-sections
least_prices-requires-clause-sections g c =
    pairs_sections c.args.taken.now.counts.now c.args.taken.now.seats.now (length c.args.taken.now.counts.now) _ c.in_ok-pairs.pairs.items
    c.deref.result.now c.deref.ensures.value
    c.in_ok-pairs.ensures
    (length_counts (g.D.Demands.crowd c.args.demands.now) (price_in c.args.taken.now.prices.now) c.args.taken.now.counts.now c.requires.counts)

pub index-requires : goal.index-requires
index-requires g c =
    let long : length c.args.taken.now.counts.now ≡ (g.D.Demands.crowd c.args.demands.now).sections =
    length_counts (g.D.Demands.crowd c.args.demands.now) (price_in c.args.taken.now.prices.now) c.args.taken.now.counts.now c.requires.counts in
    let over : slice_index c.args.taken.now.seats.now c.loop-place.place < slice_index c.args.taken.now.counts.now c.loop-place.place =
    omega (arith, c.from-room.ensures, c.if-count-room.true) in
    let asked =
    asked_at (g.D.Demands.crowd c.args.demands.now) c.args.taken.now.prices.now c.args.taken.now.counts.now c.args.taken.now.seats.now
    (length c.args.taken.now.counts.now) c.loop-place.place
    c.loop-place.asked c.deref.result.now c.in_ok-least.least.items (record { 0 = 0 })
    (c.deref.ensures.value ∙ c.in_ok-pairs.ensures) c.in_ok-least.ensures.value (omega (arith, long, c.requires.prices.same, c.loop-place-test.true)) over
    c.loop-place.invariant.next in
    let within : c.loop-place.asked < length c.in_ok-least.least.items = asked.0 in
    search rules

pub overflow_add-asked : goal.overflow_add-asked
overflow_add-asked g c =
    let few : c.loop-place.asked ≤ c.loop-place.place =
    asked_few c.args.taken.now.counts.now c.args.taken.now.seats.now c.loop-place.place c.loop-place.asked c.loop-place.invariant.next in
    omega (arith, c.args.taken.now.sections, c.loop-place-test.true)

pub loop-place-preserved-then-count-room : goal.loop-place-preserved-then-count-room
loop-place-preserved-then-count-room g c =
    let crowd = g.D.Demands.crowd c.args.demands.now in
    let long : length c.args.taken.now.counts.now ≡ (g.D.Demands.crowd c.args.demands.now).sections =
    length_counts crowd (price_in c.args.taken.now.prices.now) c.args.taken.now.counts.now c.requires.counts in
    let low : c.loop-place.place < (g.D.Demands.crowd c.args.demands.now).sections = omega (arith, c.requires.prices.same, c.loop-place-test.true) in
    let over : slice_index c.args.taken.now.seats.now c.loop-place.place < slice_index c.args.taken.now.counts.now c.loop-place.place =
    omega (arith, c.from-room.ensures, c.if-count-room.true) in
    let asked =
    asked_at crowd c.args.taken.now.prices.now c.args.taken.now.counts.now c.args.taken.now.seats.now (length c.args.taken.now.counts.now)
    c.loop-place.place c.loop-place.asked c.deref.result.now
    c.in_ok-least.least.items c.index.result.now
    (c.deref.ensures.value ∙ c.in_ok-pairs.ensures) c.in_ok-least.ensures.value (omega (arith, long, low)) over c.loop-place.invariant.next in
    pushed_over crowd c.args.taken.now.prices.now c.args.taken.now.counts.now c.args.taken.now.seats.now _ _ c.loop-place.asked c.loop-place.place
    c.loop-place.invariant c.requires.counts
    low _ c.index.result.now.0 over
    (rw (← c.index.ensures) at asked.1)
    (vector_pushed c.loop-place.vectors.items c.push.new.self.items c.in_ok-with_alone.field-0 _ c.in_ok-push.ensures.items c.in_ok-with_alone.ensures)

pub loop-place-preserved-then-count-room-2 : goal.loop-place-preserved-then-count-room-2
loop-place-preserved-then-count-room-2 g c =
    let low : c.loop-place.place < (g.D.Demands.crowd c.args.demands.now).sections = omega (arith, c.requires.prices.same, c.loop-place-test.true) in
    pushed_full (g.D.Demands.crowd c.args.demands.now) c.args.taken.now.prices.now c.args.taken.now.counts.now c.args.taken.now.seats.now _ _
    c.loop-place.asked c.loop-place.place
    c.loop-place.invariant c.requires.counts low (omega (arith, c.from-room.ensures, c.if-count-room-2.true))

pub loop-place-preserved-then-prices-place-eq0 : goal.loop-place-preserved-then-prices-place-eq0
loop-place-preserved-then-prices-place-eq0 g c =
    let low : c.loop-place.place < (g.D.Demands.crowd c.args.demands.now).sections = omega (arith, c.requires.prices.same, c.loop-place-test.true) in
    let unpaid : price_in c.args.taken.now.prices.now c.loop-place.place ≡ 0 =
    price_at c.args.taken.now.prices.now c.loop-place.place _ c.loop-place-test.true ∙ c.if-prices-place-eq0.true in
    pushed_unpaid (g.D.Demands.crowd c.args.demands.now) c.args.taken.now.prices.now c.args.taken.now.counts.now c.args.taken.now.seats.now _ _
    c.loop-place.asked c.loop-place.place
    c.loop-place.invariant c.requires.counts low
    (omega (arith, c.from-room.ensures, c.if-count-room.false, c.if-count-room-2.false)) unpaid

pub loop-place-preserved : goal.loop-place-preserved
loop-place-preserved g c =
    let low : c.loop-place.place < (g.D.Demands.crowd c.args.demands.now).sections = omega (arith, c.requires.prices.same, c.loop-place-test.true) in
    let here = price_at c.args.taken.now.prices.now c.loop-place.place (record { 0 = 0 }) c.loop-place-test.true in
    pushed_free (g.D.Demands.crowd c.args.demands.now) c.args.taken.now.prices.now c.args.taken.now.counts.now c.args.taken.now.seats.now _ _
    c.loop-place.asked c.loop-place.place
    c.loop-place.invariant c.requires.counts low _
    (omega (arith, c.from-room.ensures, c.if-count-room.false, c.if-count-room-2.false)) (omega (arith, here, c.if-prices-place-eq0.false))
    (vector_pushed c.loop-place.vectors.items c.push-in-loop-place.new.self.items c.in_ok-with_alone-2.field-0 _ c.in_ok-push-2.ensures.items
    c.in_ok-with_alone-2.ensures)
