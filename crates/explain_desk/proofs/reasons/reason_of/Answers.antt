use Rattle.std.proofs.Common.{ℕ, ◌≡◌, ◌<◌, ◌∷◌, true, length, get_or, below_more, subst, sym, refl, arith, ◌∙◌}
use Rattle.std.specs.Prelude.{All}
use Rattle.market_units.specs.declared.units.SectionNo.{SectionNo}
use Rattle.bundle_rules.specs.Bundles.{sections_of}
use Rattle.bundle_rules.specs.Demand.{price_in}
use Rattle.bundle_rules.specs.Menus.{place_in, wishes_of}
use Rattle.market_units.specs.Members.{has}
use Rattle.bundle_rules.specs.Sets.{IsAscending}
use Rattle.bundle_rules.proofs.Ends.{all_of_ordinals}
use Rattle.bundle_rules.proofs.Feasibility.{place_of_rated}
use Rattle.explain_desk.specs.declared.limits.Limit.{Limit}
use Rattle.explain_desk.specs.Limits.{Passes, PassesFirst}
use Rattle.explain_desk.specs.Reasons.{ClashesFirst}
use Rattle.explain_desk.proofs.Clashing.{NoneClashes, clash_at, clash_told, none_at}
use Rattle.explain_desk.proofs.Reasoning.{alone_reason, beside_reason, clash_reason, less_reason, rated_place, unrated_place, unrated_reason}
use Rattle.explain_desk.proofs.reasons.reason_of.Goals as goal

pub returns-then-place-len : goal.returns-then-place-len
returns-then-place-len c =
    unrated_reason (wishes_of c.args.offered.now.menu.now) (price_in c.args.offered.now.prices.now) c.args.offered.now.budget.0 (sections_of c.args.bundle.now) c.args.section.0
    (sym c.has.ensures ∙ c.if-has.false)
    (unrated_place c.args.offered.now.menu.now c.args.section.0 (omega (arith, c.if-place-len.true, c.place-place.ensures.value, c.len.ensures.value)))

pub returns-in-Some : goal.returns-in-Some
returns-in-Some c =
    let low : place_in c.args.offered.now.menu.now.places c.args.section.0 < length c.args.offered.now.menu.now.places =
    omega (arith, c.if-place-len.false, c.place-place.ensures.value, c.len.ensures.value) in
    alone_reason (wishes_of c.args.offered.now.menu.now) (price_in c.args.offered.now.prices.now) c.args.offered.now.budget.0 (sections_of c.args.bundle.now) c.args.section.0 c.in-Some.limit
    (sym c.has.ensures ∙ c.if-has.false) (rated_place c.args.offered.now.menu.now c.args.section.0 c.len.ensures.menu low)
    (subst (λ others. PassesFirst (wishes_of c.args.offered.now.menu.now) (price_in c.args.offered.now.prices.now) c.args.offered.now.budget.0 (c.args.section.0 ∷ others) c.in-Some.limit)
    c.empty.ensures c.in-Some.ensures.some)

pub clash-requires-clause-first : goal.clash-requires-clause-first
clash-requires-clause-first c =
    let menu = c.args.offered.now.menu.now in
    let each : All (λ (s : SectionNo). place_in menu.places s.0 < length menu.places) c.sections-sections.result.now =
    all_of_ordinals (λ s. place_in menu.places s < length menu.places) c.sections-sections.result.now
    (λ s is. place_of_rated menu (sections_of c.args.bundle.now) c.requires.rated s (subst (λ xs. has xs s ≡ true) c.sections-sections.ensures.value is)) in
    subst (λ n. n < length menu.places) (sym c.place.ensures.value) (each c.others.other-index (record { 0 = 0 }) c.others-test.true)

pub returns-then-clash : goal.returns-then-clash
returns-then-clash c =
    let menu = c.args.offered.now.menu.now in
    let items = c.sections-sections.result.now in
    let low : place_in menu.places c.args.section.0 < length menu.places =
    omega (arith, c.if-place-len.false, c.place-place.ensures.value, c.len.ensures.value) in
    clash_reason (wishes_of menu) (price_in c.args.offered.now.prices.now) c.args.offered.now.budget.0 (sections_of c.args.bundle.now) c.args.section.0
    (sym c.has.ensures ∙ c.if-has.false) (rated_place menu c.args.section.0 c.len.ensures.menu low)
    (subst (λ others. (limit : Limit) → ¬ Passes (wishes_of menu) (price_in c.args.offered.now.prices.now) c.args.offered.now.budget.0 (c.args.section.0 ∷ others) limit)
    c.empty.ensures c.in_default.ensures.none)
    _ refl
    (subst (λ others. ClashesFirst (wishes_of menu) others c.args.section.0 (get_or items c.others.other-index (record { 0 = 0 })).0)
    c.sections-sections.ensures.value
    (clash_at (wishes_of menu) items (record { 0 = 0 }) c.args.section.0 c.others.other-index c.others-test.true
    (subst IsAscending (sym c.sections-sections.ensures.value) c.sections-sections.ensures.bundle.ascending) c.others.invariant
    (sym (clash_told menu _ c.args.section.0 _ _ c.clash.result c.place.ensures.value c.place-place.ensures.value c.clash.ensures) ∙ c.if-clash.true)))

pub others-preserved : goal.others-preserved
others-preserved c =
    below_more _ _ c.others.invariant
    (sym
    (clash_told c.args.offered.now.menu.now _ c.args.section.0 _ _ c.clash.result c.place.ensures.value c.place-place.ensures.value c.clash.ensures)
    ∙ c.if-clash.false)

pub returns-in-Some-first_passed : goal.returns-in-Some-first_passed
returns-in-Some-first_passed c =
    let low : place_in c.args.offered.now.menu.now.places c.args.section.0 < length c.args.offered.now.menu.now.places =
    omega (arith, c.if-place-len.false, c.place-place.ensures.value, c.len.ensures.value) in
    beside_reason (wishes_of c.args.offered.now.menu.now) (price_in c.args.offered.now.prices.now) c.args.offered.now.budget.0 (sections_of c.args.bundle.now) c.args.section.0
    (sym c.has.ensures ∙ c.if-has.false) (rated_place c.args.offered.now.menu.now c.args.section.0 c.len.ensures.menu low)
    (subst (λ others. (limit : Limit) → ¬ Passes (wishes_of c.args.offered.now.menu.now) (price_in c.args.offered.now.prices.now) c.args.offered.now.budget.0 (c.args.section.0 ∷ others) limit)
    c.empty.ensures c.in_default.ensures.none)
    c.in-Some-first_passed.limit
    (subst (λ others. NoneClashes (wishes_of c.args.offered.now.menu.now) others c.args.section.0) c.sections-sections.ensures.value
    (none_at (wishes_of c.args.offered.now.menu.now) c.sections-sections.result.now (record { 0 = 0 }) c.args.section.0
    (λ k within. c.others.invariant k (let m : ℕ = c.others.other-index in let g : k < m = omega (arith, within, c.others-test.false) in g))))
    c.in-Some-first_passed.ensures.some

pub returns-in-None : goal.returns-in-None
returns-in-None c =
    let low : place_in c.args.offered.now.menu.now.places c.args.section.0 < length c.args.offered.now.menu.now.places =
    omega (arith, c.if-place-len.false, c.place-place.ensures.value, c.len.ensures.value) in
    less_reason (wishes_of c.args.offered.now.menu.now) (price_in c.args.offered.now.prices.now) c.args.offered.now.budget.0 (sections_of c.args.bundle.now) c.args.section.0
    (sym c.has.ensures ∙ c.if-has.false) (rated_place c.args.offered.now.menu.now c.args.section.0 c.len.ensures.menu low)
    (subst (λ others. (limit : Limit) → ¬ Passes (wishes_of c.args.offered.now.menu.now) (price_in c.args.offered.now.prices.now) c.args.offered.now.budget.0 (c.args.section.0 ∷ others) limit)
    c.empty.ensures c.in_default.ensures.none)
    (subst (λ others. NoneClashes (wishes_of c.args.offered.now.menu.now) others c.args.section.0) c.sections-sections.ensures.value
    (none_at (wishes_of c.args.offered.now.menu.now) c.sections-sections.result.now (record { 0 = 0 }) c.args.section.0
    (λ k within. c.others.invariant k (let m : ℕ = c.others.other-index in let g : k < m = omega (arith, within, c.others-test.false) in g))))
    c.in-None.ensures.none
