use Rattle.std.proofs.Common.{◌≡◌, ◌≤◌, ◌∙◌, ◌<◌, length, map, take, arith, ap, subst, sym, refl, ◌||◌}
use Rattle.std.proofs.lemmas.List.{length-map}
use Rattle.std.specs.Prelude.{slice_get, slice_set, Some}
use Rattle.std.specs.FinSet as set
use Rattle.bundle_rules.specs.Bundles.{sections_of}
use Rattle.demand_api.proofs.Parts.{menus_few, few_sections, students_length}
use Rattle.held_seats.specs.Choices.{may_choose}
use Rattle.held_seats.specs.Floors.{held_on}
use Rattle.held_seats.proofs.Holding.{below_more}
use Rattle.aftermarket_stage.specs.After.{terms_in}
use Rattle.aftermarket_stage.specs.HeldChoices.{AreKnown}
use Rattle.aftermarket_stage.specs.Runs.{HaveTurned, IsBestAt}
use Rattle.aftermarket_stage.proofs.Crowding.{best_low, choices_low, choices_length, choices_turned, have_turned, none_turned, students_more, turned}
use Rattle.aftermarket_stage.proofs.Knowing.{own_allowed}
use Rattle.aftermarket_stage.proofs.passes.Stage.run_pass.Goals as goal

pub loop-student-init : goal.loop-student-init
loop-student-init c =
    (none_turned (terms_in c.args.terms.now) c.args.pass (held_on c.args.self.now.floor) c.args.self.now.turns.items, c.requires.stands)

pub choices-allowed-requires-clause-place : goal.choices-allowed-requires-clause-place
choices-allowed-requires-clause-place c =
    let low : c.from-place.result < length c.args.terms.now.crowd.now.menus.items =
    subst (λ p. p < length c.args.terms.now.crowd.now.menus.items) (sym c.from-place.ensures)
    (c.requires.order c.loop-student.student-index _ c.loop-student-test.true) in
    omega (
      arith,
      low,
      choices_length c.args.terms.now.crowd.now c.args.terms.now.seats.now c.args.terms.now.prices.now c.args.terms.now.raise
          (held_on c.loop-student.self.floor) c.loop-student.invariant.1.choices,
    )

pub choices-allowed-requires-clause-below : goal.choices-allowed-requires-clause-below
choices-allowed-requires-clause-below c =
    let few : length c.args.terms.now.seats.now ≤ 400 = omega (arith, c.args.terms.now.seats_each, few_sections c.args.terms.now.crowd.now) in
    below_more (length c.args.terms.now.seats.now) 400 (held_on c.loop-student.self.floor) few
    (choices_low c.args.terms.now.crowd.now c.args.terms.now.seats.now c.args.terms.now.prices.now c.args.terms.now.raise (held_on c.loop-student.self.floor)
    c.args.terms.now.seats_each c.loop-student.invariant.1.choices)

pub give-changed-requires-clause-place : goal.give-changed-requires-clause-place
give-changed-requires-clause-place c =
    let low : c.from-place.result < length c.args.terms.now.crowd.now.menus.items =
    subst (λ p. p < length c.args.terms.now.crowd.now.menus.items) (sym c.from-place.ensures)
    (c.requires.order c.loop-student.student-index _ c.loop-student-test.true) in
    omega (
      arith,
      low,
      choices_length c.args.terms.now.crowd.now c.args.terms.now.seats.now c.args.terms.now.prices.now c.args.terms.now.raise
          (held_on c.loop-student.self.floor) c.loop-student.invariant.1.choices,
    )

pub give-changed-requires-clause-few : goal.give-changed-requires-clause-few
give-changed-requires-clause-few c =
    omega (
      arith,
      menus_few c.args.terms.now.crowd.now,
      choices_length c.args.terms.now.crowd.now c.args.terms.now.seats.now c.args.terms.now.prices.now c.args.terms.now.raise
          (held_on c.loop-student.self.floor) c.loop-student.invariant.1.choices,
    )

pub give-changed-requires-clause-below : goal.give-changed-requires-clause-below
give-changed-requires-clause-below c =
    choices_low c.args.terms.now.crowd.now c.args.terms.now.seats.now c.args.terms.now.prices.now c.args.terms.now.raise (held_on c.loop-student.self.floor)
    c.args.terms.now.seats_each c.loop-student.invariant.1.choices

pub give-changed-requires-clause-within : goal.give-changed-requires-clause-within
give-changed-requires-clause-within c =
    best_low c.args.terms.now.crowd.now c.args.terms.now.seats.now c.args.terms.now.prices.now c.args.terms.now.raise c.from-place.result
    (set.contains c.choices-allowed.result)
    (sections_of c.best_at-bundle.result) c.args.terms.now.seats_each c.best_at-bundle.ensures.best

pub best_at-bundle-requires-clause-held : goal.best_at-bundle-requires-clause-held
best_at-bundle-requires-clause-held c =
    rw c.deref.ensures.value
    (own_allowed c.args.terms.now.seats.now (held_on c.loop-student.self.floor) c.from-place.result c.choices-allowed.result
    (c.choices-allowed.ensures c.args.terms.now.seats.now c.loop-student.invariant.1.counted))

pub best_at-bundle-requires-clause-known : goal.best_at-bundle-requires-clause-known
best_at-bundle-requires-clause-known c = rw c.deref.ensures.value c.loop-student.invariant.1.best

pub best_at-bundle-requires-clause-size : goal.best_at-bundle-requires-clause-size
best_at-bundle-requires-clause-size c = c.loop-student.invariant.1.size ∙ students_length c.args.terms.now.crowd.now

pub best_at-bundle-requires-clause-students : goal.best_at-bundle-requires-clause-students
best_at-bundle-requires-clause-students c =
    omega (
      arith,
      ap length c.deref.ensures.value,
      length-map c.loop-student.self.floor.held.items sections_of,
      choices_length c.args.terms.now.crowd.now c.args.terms.now.seats.now c.args.terms.now.prices.now c.args.terms.now.raise
          (held_on c.loop-student.self.floor) c.loop-student.invariant.1.choices,
    )

pub loop-student-preserved : goal.loop-student-preserved
loop-student-preserved c =
    let turn =
    turned (terms_in c.args.terms.now) c.args.pass (held_on c.loop-student.self.floor) (held_on c.give-changed.new.self)
    c.loop-student.self.turns.items c.push.new.self.items c.give-changed.result
    _ c.in_ok-push.ensures.items
    refl
    (λ s. subst (λ i. set.contains c.choices-allowed.result s ≡ may_choose c.args.terms.now.seats.now (held_on c.loop-student.self.floor) i s) c.from-place.ensures
    (c.choices-allowed.ensures c.args.terms.now.seats.now c.loop-student.invariant.1.counted s))
    (subst
    (λ i. IsBestAt (terms_in c.args.terms.now) i (set.contains c.choices-allowed.result)
    (sections_of c.best_at-bundle.result))
    c.from-place.ensures c.best_at-bundle.ensures.best)
    (subst (λ i. held_on c.give-changed.new.self ≡ slice_set (held_on c.loop-student.self.floor) i (sections_of c.best_at-bundle.result)) c.from-place.ensures
    c.give-changed.ensures.held)
    (λ e. subst (λ i. slice_get (held_on c.loop-student.self.floor) i ≡ Some (sections_of c.best_at-bundle.result)) c.from-place.ensures (c.give-changed.ensures.quiet e))
    (λ e. subst (λ i. ¬ (slice_get (held_on c.loop-student.self.floor) i ≡ Some (sections_of c.best_at-bundle.result))) c.from-place.ensures
    (c.give-changed.ensures.moved e)) in (
      subst
          (λ students. HaveTurned (terms_in c.args.terms.now) c.args.pass students
          (held_on c.args.self.now.floor) (held_on c.give-changed.new.self) c.args.self.now.turns.items c.push.new.self.items
          (c.loop-student.changed || c.give-changed.result))
          (sym (students_more c.args.order.now c.loop-student.student-index _ c.loop-student-test.true))
          (have_turned (terms_in c.args.terms.now) c.args.pass _ (map (λ student. student.0) (take c.loop-student.student-index c.args.order.now))
          (held_on c.args.self.now.floor) (held_on c.loop-student.self.floor) (held_on c.give-changed.new.self) c.args.self.now.turns.items
          c.loop-student.self.turns.items c.push.new.self.items
          c.loop-student.changed c.give-changed.result
          c.loop-student.invariant.0 turn),
      record {
        counted = c.give-changed.ensures.floor;
        choices =
            choices_turned (terms_in c.args.terms.now) c.args.pass _ (held_on c.loop-student.self.floor) (held_on c.give-changed.new.self) c.loop-student.self.turns.items
            c.push.new.self.items c.give-changed.result c.loop-student.invariant.1.choices turn;
        size = c.best_at-bundle.ensures.size ∙ c.loop-student.invariant.1.size;
        best =
            subst (λ held. AreKnown (terms_in c.args.terms.now) held c.best_at-bundle.new.self.known.items) (sym c.give-changed.ensures.held)
            (subst
            (λ items. AreKnown (terms_in c.args.terms.now) (slice_set (map sections_of items) c.from-place.result (sections_of c.best_at-bundle.result))
            c.best_at-bundle.new.self.known.items)
            c.deref.ensures.value c.best_at-bundle.ensures.known);
      },
    )
