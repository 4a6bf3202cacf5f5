use Rattle.std.proofs.Common.{ℕ, ◌≡◌, ◌<◌, ◌≤◌, ◌+◌, ◌*◌, ◌++◌, ◌∷◌, [], length, sym, ap, ◌∙◌, arith, length-append, to_z, of_z, w32}
use Rattle.std.specs.Prelude.{pos, neg_ℤ, ◌≤ℤ◌}
use Rattle.std.proofs.lemmas.Int.{ints}
use Rattle.std.proofs.lemmas.List.{length-map}
use Rattle.bundle_rules.specs.Menus.{section_at, credits_at}
use Rattle.bundle_rules.specs.Demand.{price_in}
use Rattle.bundle_rules.specs.Existence.Places.{section_at-is, credits_at-is}
use Rattle.demand_oracle.specs.SummedNodes.{chosen_of, with_place_of}
use Rattle.demand_oracle.proofs.Growing.{ascending_next, places_next, word_next, paid_next, credits_next, next_summed}
use Rattle.demand_oracle.proofs.step.Step.with_place.Goals as goal

pub overflow_add-result : goal.overflow_add-result
overflow_add-result c = let few : length c.args.self.now.offer.now.menu.now.places ≤ 60 = c.len.ensures.menu.places.few in omega arith

pub with-requires-clause-above : goal.with-requires-clause-above
with-requires-clause-above c =
    rw (← section_at-is c.args.self.now.offer.now.menu.now.places c.args.self.now.place c.rated-rated.result.now c.rated-rated.ensures.value)
    (ascending_next c.args.self.now.offer.now.menu.now c.len.ensures.menu (price_in c.args.self.now.offer.now.prices.now) c.args.self.now.summed.now c.args.self.now.summed_is c.args.self.now.place
    c.args.self.now.undecided c.args.self.now.on_menu c.sections.ensures.bundle.ascending)

pub overflow_add-result-2 : goal.overflow_add-result-2
overflow_add-result-2 c = let paid : c.args.self.now.summed.now.paid ≤ 1000001 * length (chosen_of c.args.self.now.summed.now) = c.args.self.now.summed_is.small.paid_high in omega arith

pub overflow_add-result-3 : goal.overflow_add-result-3
overflow_add-result-3 c = let credits : c.args.self.now.summed.now.credits ≤ 100 * length (chosen_of c.args.self.now.summed.now) = c.args.self.now.summed_is.small.credits_high in omega arith

pub returns-clause-summed : goal.returns-clause-summed
returns-clause-summed c =
    let menu = c.args.self.now.offer.now.menu.now in
    let is = c.len.ensures.menu in
    let price = price_in c.args.self.now.offer.now.prices.now in
    let summed = c.args.self.now.summed.now in
    let chosen = chosen_of summed in
    let k : ℕ = c.args.self.now.place in
    let later = c.args.self.now.undecided in
    let on = c.args.self.now.on_menu in
    let section = section_at-is menu.places k c.rated-rated.result.now c.rated-rated.ensures.value in
    let credits : c.from.result ≡ credits_at menu.places k =
    c.from.ensures ∙ sym (credits_at-is menu.places k c.rated-rated.result.now c.rated-rated.ensures.value) in
    let whole : length c.sections.result.now ≡ length chosen = sym (length-map c.sections.result.now (λ s. s.0)) ∙ ap length c.sections.ensures.value in
    let n : ℕ = length chosen in
    let wide : length c.args.self.now.summed.now.places ≡ 8 = c.args.self.now.summed.now.wide in
    let more : length (with_place_of menu summed k) ≡ n + 1 = length-append chosen (section_at menu.places k ∷ []) in
    let paid : summed.paid ≤ 1000001 * n = c.args.self.now.summed_is.small.paid_high in
    let credits_high : summed.credits ≤ 100 * n = c.args.self.now.summed_is.small.credits_high in
    let own : c.from.result ≤ 100 = rw c.from.ensures c.rated-rated.ensures.range.credits in
    let room : n < 8 = c.requires in
    let low : neg_ℤ (pos (1700 * (n + 1))) ≤ℤ c.utility_with.result = c.utility_with.ensures.low in
    let high : c.utility_with.result ≤ℤ pos (1700 * (n + 1)) = c.utility_with.ensures.high in
    let kept : to_z w32 (of_z w32 c.utility_with.result) ≡ c.utility_with.result = omega (arith, ints) in
    next_summed menu is price summed c.args.self.now.summed_is k later on c.with.result _ _ _ _ _ _ (c.with.ensures ∙ ap (λ s. chosen ++ s ∷ []) (sym section))
    (rw whole (places_next menu is price summed c.args.self.now.summed_is k later on (omega arith)))
    (word_next menu is price summed c.args.self.now.summed_is k later on)
    (ap (λ p. summed.paid + p) c.price_of_place.ensures.value ∙ sym (paid_next menu is price summed c.args.self.now.summed_is k later on))
    (ap (λ p. summed.credits + p) credits ∙ sym (credits_next menu is price summed c.args.self.now.summed_is k later on))
    (kept ∙ c.utility_with.ensures.value)
    (rw (more, kept) record {
      paid_high = omega (arith, c.price_of_place.ensures.high);
      credits_high = omega arith;
      utility_low = c.utility_with.ensures.low;
      utility_high = c.utility_with.ensures.high;
    })

pub returns-clause-chosen : goal.returns-clause-chosen
returns-clause-chosen c =
    c.with.ensures
    ∙ ap (λ s. chosen_of c.args.self.now.summed.now ++ s ∷ [])
    (sym (section_at-is c.args.self.now.offer.now.menu.now.places c.args.self.now.place c.rated-rated.result.now c.rated-rated.ensures.value))
