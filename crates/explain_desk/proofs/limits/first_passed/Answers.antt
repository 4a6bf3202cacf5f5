use Rattle.std.proofs.Common.{◌≡◌, ◌<◌, ◌≤◌, ◌+◌, ◌∷◌, length, ap, subst, ◌∙◌, sym, refl, arith}
use Rattle.std.specs.Prelude.{All, true}
use Rattle.std.proofs.lemmas.List.{length-map, take_all}
use Rattle.market_units.specs.Totals.{total}
use Rattle.market_units.specs.Members.{has}
use Rattle.market_units.specs.declared.units.SectionNo.{SectionNo}
use Rattle.bundle_rules.specs.Bundles.{sections_of}
use Rattle.bundle_rules.specs.Demand.{IsPriced, price_in}
use Rattle.bundle_rules.specs.Menus.{place_in, section_at, wishes_of}
use Rattle.bundle_rules.specs.Ordinals.{ordinals}
use Rattle.bundle_rules.proofs.Choices.{priced}
use Rattle.bundle_rules.proofs.Ends.{all_of_ordinals}
use Rattle.bundle_rules.proofs.Feasibility.{place_of_rated}
use Rattle.explain_desk.proofs.Passing.{course_cap_is, credit_cap_is, credits_told, first_courses, first_credits, first_price, over_courses, over_credits, over_price, passes_none, price_told, sum_more, within_courses, within_credits, within_price}
use Rattle.explain_desk.proofs.limits.first_passed.Goals as goal

pub price_of-requires-clause-priced : goal.price_of-requires-clause-priced
price_of-requires-clause-priced c =
    all_of_ordinals (IsPriced c.args.offered.now.prices.now) c.sections-sections.result.now
    (λ s is. priced c.args.offered.now.menu.now c.args.offered.now.prices.now (sections_of c.args.bundle.now) c.args.offered.now.priced c.requires.bundle s
    (subst (λ xs. has xs s ≡ true) c.sections-sections.ensures.value is))

pub returns-then-price-offered-clause-some : goal.returns-then-price-offered-clause-some
returns-then-price-offered-clause-some c =
    let menu = c.args.offered.now.menu.now in
    let price = price_in c.args.offered.now.prices.now in
    let bundle = sections_of c.args.bundle.now in
    first_price (wishes_of menu) price c.args.offered.now.budget.0 (c.args.section.0 ∷ bundle)
    (over_price (wishes_of menu) price c.args.offered.now.budget.0 c.args.section.0 bundle c.price_of_place.result c.price_of.result
    (price_told menu c.args.offered.now.prices.now c.args.section.0 c.place-place.result c.price_of_place.result (c.price_of_place.ensures.value ∙ ap (λ m. price_in c.args.offered.now.prices.now (section_at m.places c.place-place.result)) c.rows.ensures)
    c.place-place.ensures.value c.requires.section)
    (c.price_of.ensures.value ∙ ap (total price) c.sections-sections.ensures.value) (omega (arith, c.if-price-offered.true)))

pub rated-requires-in-others : goal.rated-requires-in-others
rated-requires-in-others c =
    let menu = c.args.offered.now.menu.now in
    let each : All (λ (s : SectionNo). place_in menu.places s.0 < length menu.places) c.sections-sections.result.now =
    all_of_ordinals (λ s. place_in menu.places s < length menu.places) c.sections-sections.result.now
    (λ s is. place_of_rated menu (sections_of c.args.bundle.now) c.requires.bundle s (subst (λ xs. has xs s ≡ true) c.sections-sections.ensures.value is)) in
    subst (λ n. n < length menu.places) (sym c.place.ensures.value) (each c.others.other-index (record { 0 = 0 }) c.others-test.true)

pub others-init : goal.others-init
others-init c =
    let value =
    credits_told c.args.offered.now.menu.now c.args.section.0 c.place-place.result c.from-credits.result c.rated.result.now c.from-credits.ensures
    c.rated.ensures.value c.place-place.ensures.value in
    record { sum = omega (arith, value); few = omega (arith, c.from-credits.ensures, c.rated.ensures.range.credits) }

pub overflow_add-credits : goal.overflow_add-credits
overflow_add-credits c =
    let items = c.sections-sections.result.now in
    let count : length (sections_of c.args.bundle.now) ≡ length items =
    ap length (sym c.sections-sections.ensures.value) ∙ length-map items (λ (s : SectionNo). s.0) in
    omega
    (arith, count, c.sections-sections.ensures.bundle.few, c.others-test.true, c.others.invariant.few, c.from-credits-in-others.ensures, c.rated-in-others.ensures.range.credits)

pub others-preserved : goal.others-preserved
others-preserved c =
    let menu = c.args.offered.now.menu.now in
    let items = c.sections-sections.result.now in
    let value = credits_told menu _ c.place.result c.from-credits-in-others.result c.rated-in-others.result.now c.from-credits-in-others.ensures c.rated-in-others.ensures.value c.place.ensures.value in
    let more = sum_more (wishes_of menu).credits items c.others.other-index (record { 0 = 0 }) c.from-credits-in-others.result c.others-test.true value in
    record {
      sum = omega (arith, more, c.others.invariant.sum);
      few = omega (arith, c.others.invariant.few, c.from-credits-in-others.ensures, c.rated-in-others.ensures.range.credits);
    }

pub returns-then-credits-from-clause-some : goal.returns-then-credits-from-clause-some
returns-then-credits-from-clause-some c =
    let menu = c.args.offered.now.menu.now in
    let w = wishes_of menu in
    let price = price_in c.args.offered.now.prices.now in
    let bundle = sections_of c.args.bundle.now in
    let items = c.sections-sections.result.now in
    let sum : c.others.credits ≡ w.credits c.args.section.0 + total w.credits bundle =
    c.others.invariant.sum
    ∙ ap (λ xs. w.credits c.args.section.0 + total w.credits (ordinals xs)) (take_all c.others.other-index items (omega (arith, c.others-test.false)))
    ∙ ap (λ xs. w.credits c.args.section.0 + total w.credits xs) c.sections-sections.ensures.value in
    first_credits w price c.args.offered.now.budget.0 (c.args.section.0 ∷ bundle)
    (within_price w price c.args.offered.now.budget.0 c.args.section.0 bundle c.price_of_place.result c.price_of.result
    (price_told menu c.args.offered.now.prices.now c.args.section.0 c.place-place.result c.price_of_place.result (c.price_of_place.ensures.value ∙ ap (λ m. price_in c.args.offered.now.prices.now (section_at m.places c.place-place.result)) c.rows.ensures)
    c.place-place.ensures.value c.requires.section)
    (c.price_of.ensures.value ∙ ap (total price) c.sections-sections.ensures.value) (omega (arith, c.if-price-offered.false)))
    (over_credits w price c.args.offered.now.budget.0 c.args.section.0 bundle (w.credits c.args.section.0) (total w.credits bundle) c.from.result
    (c.from.ensures ∙ c.credits.ensures ∙ credit_cap_is menu) refl refl (omega (arith, sum, c.if-credits-from.true)))

pub returns-then-sections-from-clause-some : goal.returns-then-sections-from-clause-some
returns-then-sections-from-clause-some c =
    let menu = c.args.offered.now.menu.now in
    let w = wishes_of menu in
    let price = price_in c.args.offered.now.prices.now in
    let bundle = sections_of c.args.bundle.now in
    let items = c.sections-sections.result.now in
    let sum : c.others.credits ≡ w.credits c.args.section.0 + total w.credits bundle =
    c.others.invariant.sum
    ∙ ap (λ xs. w.credits c.args.section.0 + total w.credits (ordinals xs)) (take_all c.others.other-index items (omega (arith, c.others-test.false)))
    ∙ ap (λ xs. w.credits c.args.section.0 + total w.credits xs) c.sections-sections.ensures.value in
    let count : length items ≡ length bundle = sym (length-map items (λ (s : SectionNo). s.0)) ∙ ap length c.sections-sections.ensures.value in
    first_courses w price c.args.offered.now.budget.0 (c.args.section.0 ∷ bundle)
    (within_price w price c.args.offered.now.budget.0 c.args.section.0 bundle c.price_of_place.result c.price_of.result
    (price_told menu c.args.offered.now.prices.now c.args.section.0 c.place-place.result c.price_of_place.result (c.price_of_place.ensures.value ∙ ap (λ m. price_in c.args.offered.now.prices.now (section_at m.places c.place-place.result)) c.rows.ensures)
    c.place-place.ensures.value c.requires.section)
    (c.price_of.ensures.value ∙ ap (total price) c.sections-sections.ensures.value) (omega (arith, c.if-price-offered.false)))
    (within_credits w price c.args.offered.now.budget.0 c.args.section.0 bundle (w.credits c.args.section.0) (total w.credits bundle) c.from.result
    (c.from.ensures ∙ c.credits.ensures ∙ credit_cap_is menu) refl refl (omega (arith, sum, c.if-credits-from.false)))
    (over_courses w price c.args.offered.now.budget.0 c.args.section.0 bundle (length items) c.from-2.result
    (c.from-2.ensures ∙ c.courses.ensures ∙ course_cap_is menu) count (omega (arith, c.if-sections-from.true)))

pub returns-clause-none : goal.returns-clause-none
returns-clause-none c =
    let menu = c.args.offered.now.menu.now in
    let w = wishes_of menu in
    let price = price_in c.args.offered.now.prices.now in
    let bundle = sections_of c.args.bundle.now in
    let items = c.sections-sections.result.now in
    let sum : c.others.credits ≡ w.credits c.args.section.0 + total w.credits bundle =
    c.others.invariant.sum
    ∙ ap (λ xs. w.credits c.args.section.0 + total w.credits (ordinals xs)) (take_all c.others.other-index items (omega (arith, c.others-test.false)))
    ∙ ap (λ xs. w.credits c.args.section.0 + total w.credits xs) c.sections-sections.ensures.value in
    let count : length items ≡ length bundle = sym (length-map items (λ (s : SectionNo). s.0)) ∙ ap length c.sections-sections.ensures.value in
    passes_none w price c.args.offered.now.budget.0 (c.args.section.0 ∷ bundle)
    (within_price w price c.args.offered.now.budget.0 c.args.section.0 bundle c.price_of_place.result c.price_of.result
    (price_told menu c.args.offered.now.prices.now c.args.section.0 c.place-place.result c.price_of_place.result (c.price_of_place.ensures.value ∙ ap (λ m. price_in c.args.offered.now.prices.now (section_at m.places c.place-place.result)) c.rows.ensures)
    c.place-place.ensures.value c.requires.section)
    (c.price_of.ensures.value ∙ ap (total price) c.sections-sections.ensures.value) (omega (arith, c.if-price-offered.false)))
    (within_credits w price c.args.offered.now.budget.0 c.args.section.0 bundle (w.credits c.args.section.0) (total w.credits bundle) c.from.result
    (c.from.ensures ∙ c.credits.ensures ∙ credit_cap_is menu) refl refl (omega (arith, sum, c.if-credits-from.false)))
    (within_courses w price c.args.offered.now.budget.0 c.args.section.0 bundle (length items) c.from-2.result
    (c.from-2.ensures ∙ c.courses.ensures ∙ course_cap_is menu) count (omega (arith, c.if-sections-from.false)))
