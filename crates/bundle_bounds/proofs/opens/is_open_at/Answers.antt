use Rattle.std.proofs.Common.{◌≡◌, ◌≤◌, ◌<◌, true, false, ◌∙◌, refl, ap, sym, arith, rules}
use Rattle.std.specs.Prelude.{nat_le, not}
use Rattle.std.specs.List.{list_all}
use Rattle.std.specs.FinSet as set
use Rattle.plain_facts.proofs.Numbers.{le_true}
use Rattle.bundle_rules.specs.Demand.{price_in}
use Rattle.bundle_rules.specs.Menus.{section_at, credits_at, clash_in}
use Rattle.bundle_rules.specs.Existence.Places.{section_at-is, credits_at-is}
use Rattle.bundle_bounds.proofs.Openness.{le_false}
use Rattle.bundle_bounds.proofs.opens.is_open_at.Goals as goal
use Rattle.bundle_bounds.proofs.opens.is_open_at.Goals.{After-from}

pub returns-then-not-has : goal.returns-then-not-has
returns-then-not-has c =
    let here = section_at-is c.args.chosen.now.offer.now.menu.now.places c.args.place c.rated-rated.result.now c.rated-rated.ensures.value in
    let shut : c.has.result ≡ false = search rules in
    let none : set.contains c.args.chosen.now.offer.now.allowed.now (section_at c.args.chosen.now.offer.now.menu.now.places c.args.place) ≡ false =
    ap (set.contains c.args.chosen.now.offer.now.allowed.now) here ∙ sym c.has.ensures ∙ shut in
    rw none refl

-- where all but the credits and the courses allow the place
opened : (c : After-from)
    → (set.contains c.args.chosen.now.offer.now.allowed.now (section_at c.args.chosen.now.offer.now.menu.now.places c.args.place) ≡ true)
    × (list_all (λ other. not (clash_in c.args.chosen.now.offer.now.menu.now.clashes c.args.place other)) c.args.chosen.now.places.now ≡ true)
    × (nat_le (price_in c.args.chosen.now.offer.now.prices.now (section_at c.args.chosen.now.offer.now.menu.now.places c.args.place)) c.args.chosen.now.rests.budget ≡ true)
opened c =
    let here = section_at-is c.args.chosen.now.offer.now.menu.now.places c.args.place c.rated-rated.result.now c.rated-rated.ensures.value in
    let open_ : c.has.result ≡ true = search rules in
    let free : c.is_apart.result ≡ true = search rules in
    let cheap : c.price_of_place.result ≤ c.args.chosen.now.rests.budget = omega arith in (
      ap (set.contains c.args.chosen.now.offer.now.allowed.now) here ∙ sym c.has.ensures ∙ open_,
      sym c.is_apart.ensures ∙ free,
      le_true _ _ (rw (← c.price_of_place.ensures.value) cheap),
    )

pub returns-then-from-rests : goal.returns-then-from-rests
returns-then-from-rests c =
    let is = opened (goal.at.returns-then-from-rests c).After-from in
    let credits_is = credits_at-is c.args.chosen.now.offer.now.menu.now.places c.args.place c.rated-rated.result.now c.rated-rated.ensures.value in
    let few : credits_at c.args.chosen.now.offer.now.menu.now.places c.args.place ≤ c.args.chosen.now.rests.credits = omega (arith, credits_is, c.from.ensures) in
    rw (is.0, is.1, is.2, le_true _ _ few) refl

pub returns-else-from-rests : goal.returns-else-from-rests
returns-else-from-rests c =
    let is = opened (goal.at.returns-else-from-rests c).After-from in
    let credits_is = credits_at-is c.args.chosen.now.offer.now.menu.now.places c.args.place c.rated-rated.result.now c.rated-rated.ensures.value in
    let many : c.args.chosen.now.rests.credits < credits_at c.args.chosen.now.offer.now.menu.now.places c.args.place = omega (arith, credits_is, c.from.ensures) in
    let over : c.args.chosen.now.rests.credits < c.from.result = omega arith in
    rw (is.0, is.1, is.2, le_false _ _ many, le_false _ _ over) refl
