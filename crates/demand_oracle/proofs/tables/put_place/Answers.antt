use Rattle.std.proofs.Common.{◌≤◌, ◌*◌, ◌+◌, ◌/◌, ◌^◌, ap, subst, sym, ◌∙◌, arith, length}
use Rattle.bundle_bounds.specs.Views.{data_of}
use Rattle.demand_oracle.specs.Reaches.{IsPlaced, top_of}
use Rattle.demand_oracle.proofs.Hoping.{allowed_read}
use Rattle.demand_oracle.proofs.Covering.{covers_placed, covers_not_placed, small_placed}
use Rattle.demand_oracle.proofs.tables.put_place.Goals as goal

pub returns-then-not-has-clause-covers : goal.returns-then-not-has-clause-covers
returns-then-not-has-clause-covers c is holds =
    let menu = c.args.spot.now.offer.now.menu.now in
    let offer = data_of c.args.spot.now.offer.now in
    let k = c.args.spot.now.place in
    let off =
    allowed_read menu c.args.spot.now.offer.now.prices.now c.args.spot.now.offer.now.budget.0 c.args.spot.now.offer.now.allowed.now k c.rated.result.now c.rated.ensures.value ∙ sym c.has.ensures ∙ c.if-not-has.true in
    covers_not_placed offer c.args.multipliers c.args.unit.shift (top_of offer c.args.unit.shift) k (k + 1) 0 64 c.args.most.now c.put_counts.new.most c.len.ensures.menu.caps.courses_cap
    c.args.spot.now.on_menu (subst (λ t. IsPlaced c.args.spot.now.offer.now.menu.now.courses t 0 64 k (k + 1) c.args.most.now c.put_counts.new.most) c.last_column-top.ensures c.put_counts.ensures) off (omega arith) holds

pub returns-then-not-has-clause-small : goal.returns-then-not-has-clause-small
returns-then-not-has-clause-small c =
    let menu = c.args.spot.now.offer.now.menu.now in
    let k = c.args.spot.now.place in
    small_placed menu.courses (top_of (data_of c.args.spot.now.offer.now) c.args.unit.shift) 0 64 k (k + 1) (length menu.places) c.args.most.now c.put_counts.new.most c.len.ensures.menu.caps.courses_cap (omega arith)
    c.args.spot.now.on_menu (omega arith) (omega arith) (subst (λ t. IsPlaced c.args.spot.now.offer.now.menu.now.courses t 0 64 k (k + 1) c.args.most.now c.put_counts.new.most) c.last_column-top.ensures c.put_counts.ensures) c.requires

pub returns-clause-covers : goal.returns-clause-covers
returns-clause-covers c is holds =
    let menu = c.args.spot.now.offer.now.menu.now in
    let offer = data_of c.args.spot.now.offer.now in
    let k = c.args.spot.now.place in
    let v = c.thousandths-value.result in
    let cost = c.whole_in-cost.result in
    let next = c.next_apart-next.result in
    let high = subst (λ n. n ≤ 1000 * v) (c.value_at.ensures.value is) c.thousandths-value.ensures.value in
    let costs = c.whole_in-cost.ensures ∙ ap (λ n. n / 2 ^ c.args.unit.shift) c.price_of_place.ensures.value in
    covers_placed offer c.args.multipliers c.args.unit.shift (top_of offer c.args.unit.shift) k next v cost c.args.most.now c.put_counts-2.new.most c.len.ensures.menu.caps.courses_cap c.args.spot.now.on_menu
    c.next_apart-next.ensures.within c.next_apart-next.ensures.from (subst (λ t. IsPlaced c.args.spot.now.offer.now.menu.now.courses t v cost k next c.args.most.now c.put_counts-2.new.most) c.last_column-top.ensures c.put_counts-2.ensures)
    c.next_apart-next.ensures.between high costs holds

pub returns-clause-small : goal.returns-clause-small
returns-clause-small c =
    let menu = c.args.spot.now.offer.now.menu.now in
    let k = c.args.spot.now.place in
    let v = c.thousandths-value.result in
    let cost = c.whole_in-cost.result in
    let next = c.next_apart-next.result in
    small_placed menu.courses (top_of (data_of c.args.spot.now.offer.now) c.args.unit.shift) v cost k next (length menu.places) c.args.most.now c.put_counts-2.new.most c.len.ensures.menu.caps.courses_cap
    c.thousandths-value.ensures.high c.args.spot.now.on_menu c.next_apart-next.ensures.from c.next_apart-next.ensures.within (subst (λ t. IsPlaced c.args.spot.now.offer.now.menu.now.courses t v cost k next c.args.most.now c.put_counts-2.new.most) c.last_column-top.ensures c.put_counts-2.ensures) c.requires
