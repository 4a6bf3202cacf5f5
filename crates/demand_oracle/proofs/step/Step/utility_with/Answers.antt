use Rattle.std.proofs.Common.{ℕ, ◌≡◌, ◌≤◌, ◌*◌, length, sym, ap, ◌∙◌, arith}
use Rattle.std.specs.Prelude.{ℤ, pos, ◌+ℤ◌, ◌≤ℤ◌, neg_ℤ}
use Rattle.std.proofs.lemmas.Int.{ints}
use Rattle.market_units.specs.Totals.{signed_total}
use Rattle.bundle_rules.specs.Menus.{adjustment_in}
use Rattle.bundle_rules.specs.Existence.Places.{rating_at-is}
use Rattle.bundle_rules.proofs.Feasibility.{places_of_rated}
use Rattle.bundle_bounds.specs.Offers.{places_of}
use Rattle.bundle_bounds.specs.Views.{data_of}
use Rattle.demand_oracle.specs.SummedNodes.{chosen_of}
use Rattle.demand_oracle.proofs.Growing.{few_listed, small_parts, parts_sum, parts_low, parts_high, utility_next}
use Rattle.demand_oracle.proofs.step.Step.utility_with.Goals as goal

pub adjustments_with-adjustments-requires-clause-on_menu : goal.adjustments_with-adjustments-requires-clause-on_menu
adjustments_with-adjustments-requires-clause-on_menu c =
    rw (c.places.ensures.value c.args.self.now.offer.now.menu.now (data_of c.args.self.now.offer.now).price c.args.self.now.summed_is)
    (places_of_rated c.args.self.now.offer.now.menu.now (chosen_of c.args.self.now.summed.now) c.args.self.now.summed_is.rated)

pub overflow_add-result : goal.overflow_add-result
overflow_add-result c =
    let u : ℤ = c.args.self.now.summed.now.utility in
    let n : ℕ = length (chosen_of c.args.self.now.summed.now) in
    let low : neg_ℤ (pos (1700 * n)) ≤ℤ u = c.args.self.now.summed_is.small.utility_low in
    let high : u ≤ℤ pos (1700 * n) = c.args.self.now.summed_is.small.utility_high in
    let few : n ≤ 8 =
    few_listed c.args.self.now.offer.now.menu.now c.args.self.now.summed.now c.places.result.now (c.places.ensures.value c.args.self.now.offer.now.menu.now (data_of c.args.self.now.offer.now).price c.args.self.now.summed_is) c.places.ensures.few in
    let rating : c.rated-rated.result.now.rating ≤ 100 = c.rated-rated.ensures.range.rating_high in
    let read : c.from.result ≡ pos c.rated-rated.result.now.rating = c.from.ensures in
    omega (arith, ints)

pub overflow_add-result-2 : goal.overflow_add-result-2
overflow_add-result-2 c =
    let u : ℤ = c.args.self.now.summed.now.utility in
    let n : ℕ = length (chosen_of c.args.self.now.summed.now) in
    let low : neg_ℤ (pos (1700 * n)) ≤ℤ u = c.args.self.now.summed_is.small.utility_low in
    let high : u ≤ℤ pos (1700 * n) = c.args.self.now.summed_is.small.utility_high in
    let few : n ≤ 8 =
    few_listed c.args.self.now.offer.now.menu.now c.args.self.now.summed.now c.places.result.now (c.places.ensures.value c.args.self.now.offer.now.menu.now (data_of c.args.self.now.offer.now).price c.args.self.now.summed_is) c.places.ensures.few in
    let rating : c.rated-rated.result.now.rating ≤ 100 = c.rated-rated.ensures.range.rating_high in
    let read : c.from.result ≡ pos c.rated-rated.result.now.rating = c.from.ensures in
    let size : length c.places.result.now ≤ 8 = c.places.ensures.few in
    let low_a : neg_ℤ (pos (200 * length c.places.result.now)) ≤ℤ c.adjustments_with-adjustments.result = c.adjustments_with-adjustments.ensures.low in
    let high_a : c.adjustments_with-adjustments.result ≤ℤ pos (200 * length c.places.result.now) = c.adjustments_with-adjustments.ensures.high in
    omega (arith, ints)

pub returns-clause-value : goal.returns-clause-value
returns-clause-value c =
    let menu = c.args.self.now.offer.now.menu.now in
    let price = (data_of c.args.self.now.offer.now).price in
    let is = c.args.self.now.summed_is in
    let summed = c.args.self.now.summed.now in
    let k : ℕ = c.args.self.now.place in
    let rated = c.rated-rated.result.now in
    let places : c.places.result.now ≡ places_of menu (chosen_of summed) = c.places.ensures.value menu price is in
    let parts =
    small_parts menu price summed is c.places.result.now c.adjustments_with-adjustments.result rated.rating places
    (few_listed c.args.self.now.offer.now.menu.now c.args.self.now.summed.now c.places.result.now (c.places.ensures.value c.args.self.now.offer.now.menu.now (data_of c.args.self.now.offer.now).price c.args.self.now.summed_is) c.places.ensures.few)
    c.rated-rated.ensures.range.rating_high c.adjustments_with-adjustments.ensures.low c.adjustments_with-adjustments.ensures.high in
    parts_sum summed.utility c.adjustments_with-adjustments.result c.from.result (length (chosen_of summed)) rated.rating parts c.from.ensures
    ∙ ap (λ r. (summed.utility +ℤ pos r) +ℤ c.adjustments_with-adjustments.result) (sym (rating_at-is menu.places k rated c.rated-rated.ensures.value))
    ∙ sym
    (utility_next menu c.len.ensures.menu price summed is k c.args.self.now.undecided c.args.self.now.on_menu c.adjustments_with-adjustments.result
    (c.adjustments_with-adjustments.ensures.value ∙ ap (signed_total (λ other. adjustment_in menu.pairs other k)) places))

pub returns-clause-low : goal.returns-clause-low
returns-clause-low c =
    let menu = c.args.self.now.offer.now.menu.now in
    let summed = c.args.self.now.summed.now in
    let adjustments : ℤ = c.adjustments_with-adjustments.result in
    let rating : ℕ = c.rated-rated.result.now.rating in
    let n : ℕ = length (chosen_of summed) in
    let parts =
    small_parts menu (data_of c.args.self.now.offer.now).price summed c.args.self.now.summed_is c.places.result.now adjustments rating
    (c.places.ensures.value menu (data_of c.args.self.now.offer.now).price c.args.self.now.summed_is)
    (few_listed c.args.self.now.offer.now.menu.now c.args.self.now.summed.now c.places.result.now (c.places.ensures.value c.args.self.now.offer.now.menu.now (data_of c.args.self.now.offer.now).price c.args.self.now.summed_is) c.places.ensures.few) c.rated-rated.ensures.range.rating_high
    c.adjustments_with-adjustments.ensures.low c.adjustments_with-adjustments.ensures.high in
    rw (parts_sum summed.utility adjustments c.from.result n rating parts c.from.ensures) (parts_low summed.utility adjustments n rating parts)

pub returns-clause-high : goal.returns-clause-high
returns-clause-high c =
    let menu = c.args.self.now.offer.now.menu.now in
    let summed = c.args.self.now.summed.now in
    let adjustments : ℤ = c.adjustments_with-adjustments.result in
    let rating : ℕ = c.rated-rated.result.now.rating in
    let n : ℕ = length (chosen_of summed) in
    let parts =
    small_parts menu (data_of c.args.self.now.offer.now).price summed c.args.self.now.summed_is c.places.result.now adjustments rating
    (c.places.ensures.value menu (data_of c.args.self.now.offer.now).price c.args.self.now.summed_is)
    (few_listed c.args.self.now.offer.now.menu.now c.args.self.now.summed.now c.places.result.now (c.places.ensures.value c.args.self.now.offer.now.menu.now (data_of c.args.self.now.offer.now).price c.args.self.now.summed_is) c.places.ensures.few) c.rated-rated.ensures.range.rating_high
    c.adjustments_with-adjustments.ensures.low c.adjustments_with-adjustments.ensures.high in
    rw (parts_sum summed.utility adjustments c.from.result n rating parts c.from.ensures) (parts_high summed.utility adjustments n rating parts)
