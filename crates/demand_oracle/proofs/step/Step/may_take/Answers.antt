use Rattle.std.proofs.Common.{◌≡◌, ◌≤◌, ◌-◌, length, sym, ap, ◌∙◌, arith}
use Rattle.std.proofs.lemmas.Bool.{false≢true}
use Rattle.bundle_rules.specs.Demand.{price_in}
use Rattle.bundle_rules.specs.Menus.{credits_at}
use Rattle.bundle_rules.specs.Existence.Places.{credits_at-is}
use Rattle.bundle_rules.proofs.Feasibility.{places_of_rated}
use Rattle.bundle_bounds.specs.Views.{data_of}
use Rattle.bundle_bounds.specs.Offers.{price_at}
use Rattle.bundle_bounds.specs.Opens.{is_apart}
use Rattle.demand_oracle.specs.SummedNodes.{chosen_of}
use Rattle.demand_oracle.proofs.Hoping.{allowed_read}
use Rattle.demand_oracle.proofs.Openings.{takable_where_open_at, open_at_where_takable}
use Rattle.demand_oracle.proofs.step.Step.may_take.Goals as goal

pub returns-then-not-has-clause-takable : goal.returns-then-not-has-clause-takable
returns-then-not-has-clause-takable c = (
  λ is. absurd (false≢true is),
  λ takable.
      let menu = c.args.self.now.offer.now.menu.now in
      let at =
      open_at_where_takable (data_of c.args.self.now.offer.now) c.len.ensures.menu c.args.self.now.summed.now c.args.self.now.summed_is _
      c.requires c.args.self.now.place c.args.self.now.undecided c.args.self.now.on_menu takable in
      sym
      (allowed_read menu c.args.self.now.offer.now.prices.now c.args.self.now.offer.now.budget.0 c.args.self.now.offer.now.allowed.now c.args.self.now.place c.rated-rated.result.now c.rated-rated.ensures.value
      ∙ sym c.has.ensures ∙ c.if-not-has.true)
      ∙ at.allowed,
)

pub returns-then-price_of_place-budget_left-clause-takable : goal.returns-then-price_of_place-budget_left-clause-takable
returns-then-price_of_place-budget_left-clause-takable c = (
  λ is. absurd (false≢true is),
  λ takable.
      let offer = data_of c.args.self.now.offer.now in
      let at =
      open_at_where_takable offer c.len.ensures.menu c.args.self.now.summed.now c.args.self.now.summed_is _ c.requires c.args.self.now.place c.args.self.now.undecided c.args.self.now.on_menu
      takable in
      let price : price_at offer c.args.self.now.place ≤ c.args.self.now.offer.now.budget.0 - c.args.self.now.summed.now.paid = at.price in
      let read : c.price_of_place.result ≡ price_at offer c.args.self.now.place = c.price_of_place.ensures.value in absurd (omega arith),
)

pub returns-then-from-credits_left-clause-takable : goal.returns-then-from-credits_left-clause-takable
returns-then-from-credits_left-clause-takable c = (
  λ is. absurd (false≢true is),
  λ takable.
      let menu = c.args.self.now.offer.now.menu.now in
      let k = c.args.self.now.place in
      let at =
      open_at_where_takable (data_of c.args.self.now.offer.now) c.len.ensures.menu c.args.self.now.summed.now c.args.self.now.summed_is _
      c.requires c.args.self.now.place c.args.self.now.undecided c.args.self.now.on_menu takable in
      let credits : credits_at menu.places k ≤ menu.credits - c.args.self.now.summed.now.credits = at.credits in
      let read : credits_at menu.places k ≡ c.rated-rated.result.now.credits =
      credits_at-is menu.places k c.rated-rated.result.now c.rated-rated.ensures.value in
      absurd (omega arith),
)

pub returns-then-courses_left-eq0-clause-takable : goal.returns-then-courses_left-eq0-clause-takable
returns-then-courses_left-eq0-clause-takable c = (
  λ is. absurd (false≢true is),
  λ takable.
      let menu = c.args.self.now.offer.now.menu.now in
      let at =
      open_at_where_takable (data_of c.args.self.now.offer.now) c.len.ensures.menu c.args.self.now.summed.now c.args.self.now.summed_is _
      c.requires c.args.self.now.place c.args.self.now.undecided c.args.self.now.on_menu takable in
      let courses : 1 ≤ menu.courses - length (chosen_of c.args.self.now.summed.now) = at.courses in absurd (omega arith),
)

pub is_apart-requires-clause-on_menu : goal.is_apart-requires-clause-on_menu
is_apart-requires-clause-on_menu c =
    rw (c.places.ensures.value c.args.self.now.offer.now.menu.now (price_in c.args.self.now.offer.now.prices.now) c.args.self.now.summed_is)
    (places_of_rated c.args.self.now.offer.now.menu.now (chosen_of c.args.self.now.summed.now) c.args.self.now.summed_is.rated)

pub returns-clause-takable : goal.returns-clause-takable
returns-clause-takable c =
    let menu = c.args.self.now.offer.now.menu.now in
    let k = c.args.self.now.place in
    let offer = data_of c.args.self.now.offer.now in
    let places = c.places.ensures.value menu (price_in c.args.self.now.offer.now.prices.now) c.args.self.now.summed_is in
    let same = c.is_apart.ensures ∙ ap (λ l. is_apart offer l k) places in
    let credits : credits_at menu.places k ≡ c.rated-rated.result.now.credits =
    credits_at-is menu.places k c.rated-rated.result.now c.rated-rated.ensures.value in
    let price : c.price_of_place.result ≡ price_at offer k = c.price_of_place.ensures.value in (
      λ is. takable_where_open_at offer c.len.ensures.menu c.args.self.now.summed.now c.args.self.now.summed_is _ c.requires c.args.self.now.place c.args.self.now.undecided c.args.self.now.on_menu record {
        allowed =
            allowed_read menu c.args.self.now.offer.now.prices.now c.args.self.now.offer.now.budget.0 c.args.self.now.offer.now.allowed.now k c.rated-rated.result.now c.rated-rated.ensures.value ∙ sym c.has.ensures
            ∙ c.if-not-has.false;
        price = omega arith;
        credits = omega arith;
        courses = omega arith;
        apart = sym same ∙ is;
      },
      λ takable. same
          ∙ (open_at_where_takable offer c.len.ensures.menu c.args.self.now.summed.now c.args.self.now.summed_is _ c.requires c.args.self.now.place c.args.self.now.undecided
          c.args.self.now.on_menu takable).apart,
    )

pub returns-clause-room : goal.returns-clause-room
returns-clause-room c is =
    let cap : c.args.self.now.offer.now.menu.now.courses ≤ 8 = c.len.ensures.menu.caps.courses_cap in
    let left : c.courses_left.result ≡ c.args.self.now.offer.now.menu.now.courses - length (chosen_of c.args.self.now.summed.now) = c.courses_left.ensures.value in omega arith
