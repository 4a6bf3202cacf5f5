use Rattle.std.proofs.Common.{◌≡◌, ◌<◌, ◌++◌, ◌∷◌, [], ℕ, length, ap, sym, subst, ◌∙◌, arith}
use Rattle.std.specs.FinSet as set
use Rattle.std.proofs.lemmas.Bool.{true≢false}
use Rattle.bundle_rules.specs.Menus.{section_at, place_in, wishes_of}
use Rattle.bundle_rules.specs.Demand.{price_in}
use Rattle.bundle_rules.specs.Given.{SomeHas}
use Rattle.bundle_rules.specs.Existence.Places.{section_at-place_in}
use Rattle.bundle_rules.proofs.Feasibility.{place_of_rated}
use Rattle.bundle_rules.proofs.GivenBest.{best_with_a_section}
use Rattle.bundle_bounds.specs.Views.{data_of}
use Rattle.bundle_bounds.specs.Laws.{IsTakable}
use Rattle.demand_oracle.proofs.oracle.place_alone.Goals as goal

pub returns-then-place-len-clause-none : goal.returns-then-place-len-clause-none
returns-then-place-len-clause-none c told =
    let some =
    subst (λ m. SomeHas (wishes_of m) (price_in c.args.offer.now.prices.now) c.args.offer.now.budget.0 (set.contains c.args.offer.now.allowed.now) c.args.section.0)
    c.requires told in
    let low : place_in c.args.offer.now.menu.now.places c.args.section.0 < length c.args.offer.now.menu.now.places =
    place_of_rated c.args.offer.now.menu.now some.0 some.1.feasible.rated c.args.section.0 some.2 in
    omega (arith, c.if-place-len.true, c.place-place.ensures.value, c.len.ensures.value)

pub invariant_of-step : goal.invariant_of-step
invariant_of-step c = record {
  summed_is = c.root-root.ensures.summed c.args.offer.now.menu.now (price_in c.args.offer.now.prices.now);
  undecided = omega (arith, c.root-root.ensures.place);
  on_menu = omega (arith, c.if-place-len.false, c.len.ensures.value);
}

pub returns-then-not-may_take-clause-none : goal.returns-then-not-may_take-clause-none
returns-then-not-may_take-clause-none c told =
    let some =
    subst (λ m. SomeHas (wishes_of m) (price_in c.args.offer.now.prices.now) c.args.offer.now.budget.0 (set.contains c.args.offer.now.allowed.now) c.args.section.0)
    c.requires told in
    let menu = c.args.offer.now.menu.now in
    let s : ℕ = c.args.section.0 in
    let offer = data_of c.args.offer.now in
    let low : place_in menu.places s < length menu.places = omega (arith, c.if-place-len.false, c.place-place.ensures.value, c.len.ensures.value) in
    let same : section_at menu.places c.place-place.result ≡ s =
    ap (section_at menu.places) c.place-place.ensures.value ∙ section_at-place_in menu.places s low in
    let alone : IsTakable offer (s ∷ []) =
    (best_with_a_section menu (price_in c.args.offer.now.prices.now) c.args.offer.now.budget.0 (set.contains c.args.offer.now.allowed.now) s).alone.0 some in
    let chosen = ap (λ l. l ++ section_at menu.places c.place-place.result ∷ []) c.root-root.ensures.chosen ∙ ap (λ t. t ∷ []) same in
    true≢false (sym (c.may_take.ensures.takable.1 (subst (IsTakable offer) (sym chosen) alone)) ∙ c.if-not-may_take.true)

pub returns-clause-place : goal.returns-clause-place
returns-clause-place c =
    let menu = c.args.offer.now.menu.now in
    let s : ℕ = c.args.section.0 in
    let low : place_in menu.places s < length menu.places = omega (arith, c.if-place-len.false, c.place-place.ensures.value, c.len.ensures.value) in (
      omega (arith, c.if-place-len.false, c.len.ensures.value),
      subst (λ m. section_at m.places c.place-place.result ≡ s) (sym c.requires)
          (ap (section_at menu.places) c.place-place.ensures.value ∙ section_at-place_in menu.places s low),
    )

pub returns-clause-alone : goal.returns-clause-alone
returns-clause-alone c =
    let offer = data_of c.args.offer.now in
    subst (λ chosen. IsTakable offer (chosen ++ section_at c.args.offer.now.menu.now.places c.place-place.result ∷ [])) c.root-root.ensures.chosen
    (c.may_take.ensures.takable.0 c.if-not-may_take.false)
