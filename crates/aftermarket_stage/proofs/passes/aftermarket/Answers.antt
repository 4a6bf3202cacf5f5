use Rattle.std.proofs.Common.{◌≡◌, ◌<◌, ◌≤◌, ◌+◌, ◌∙◌, not, map, length, arith, ap, subst, sym, rules}
use Rattle.std.proofs.lemmas.List.{length-map}
use Rattle.std.proofs.lemmas.Result.{IfOk-weaker}
use Rattle.bundle_rules.specs.Bundles.{sections_of}
use Rattle.bundle_rules.specs.Demand.{price_in}
use Rattle.bundle_rules.specs.Places.{places_from}
use Rattle.budget_draw.specs.AfterOrder.{after_order_of}
use Rattle.demand_api.specs.Crowds.{holders}
use Rattle.demand_api.proofs.Takers.{demands_length}
use Rattle.demand_api.proofs.Parts.{menus_few, students_length}
use Rattle.held_seats.specs.Choices.{AreHeldWithin}
use Rattle.aftermarket_stage.specs.After.{terms_of}
use Rattle.held_seats.specs.Floors.{held_on}
use Rattle.aftermarket_stage.specs.HeldChoices.{AreChoices}
use Rattle.aftermarket_stage.specs.Runs.{HaveTurned}
use Rattle.aftermarket_stage.proofs.Turning.{start_choices}
use Rattle.aftermarket_stage.proofs.Knowing.{known_none}
use Rattle.held_seats.proofs.Holding.{counts_are, counts_few}
use Rattle.aftermarket_stage.proofs.Crowding.{begins, budgets_same, choices_length, choices_low, goes_on, if_both, is_made, made_within, measure, measure_falls, order_within, passes_few, some_or_none, under_way}
use Rattle.aftermarket_stage.proofs.passes.aftermarket.Goals as goal

pub open-requires-clause-few : goal.open-requires-clause-few
open-requires-clause-few c =
    omega (
      arith,
      ap length c.requires.demands,
      length-map c.args.bundles.now sections_of,
      demands_length c.args.crowd.now (price_in c.args.prices.now),
      menus_few c.args.crowd.now,
    )

pub open-requires-clause-below : goal.open-requires-clause-below
open-requires-clause-below c =
    choices_low c.args.crowd.now c.args.seats.now c.args.prices.now c.args.raise (map sections_of c.args.bundles.now) c.requires.seats
    (subst (AreChoices (terms_of c.args.crowd.now c.args.seats.now c.args.prices.now c.args.raise)) (sym c.requires.demands)
    (start_choices (terms_of c.args.crowd.now c.args.seats.now c.args.prices.now c.args.raise)))

pub loop-changed-init : goal.loop-changed-init
loop-changed-init c =
    let terms = terms_of c.args.crowd.now c.args.seats.now c.args.prices.now c.args.raise in
    let some = some_or_none c.args.crowd.now.menus.items c.args.crowd.now.budgets.items c.is_empty-changed.result c.args.crowd.now.same (search rules) in (
      begins terms (map sections_of c.args.bundles.now) (held_on c.in_ok-floor.floor) c.new-turns.result.items (not c.is_empty-changed.result)
          c.in_ok-floor.ensures.held c.new-turns.ensures.items some.0 some.1,
      record {
        counted = c.in_ok-floor.ensures.floor;
        choices = subst (AreChoices terms) (sym (c.in_ok-floor.ensures.held ∙ c.requires.demands)) (start_choices terms);
        size =
            omega (
              arith,
              c.in_ok-chooser.ensures.size,
              ap length c.requires.demands,
              length-map c.args.bundles.now sections_of,
              demands_length c.args.crowd.now (price_in c.args.prices.now),
              students_length c.args.crowd.now,
            );
        best = known_none terms (held_on c.in_ok-floor.floor) c.in_ok-chooser.chooser.known.items c.in_ok-chooser.ensures.none;
      },
    )

pub after_order-requires : goal.after_order-requires
after_order-requires c =
    let few : length c.args.crowd.now.menus.items ≤ 2000 = menus_few c.args.crowd.now in
    let same : length c.args.crowd.now.budgets.items ≡ length c.args.crowd.now.menus.items = c.args.crowd.now.same in
    search rules

pub overflow_add-passes : goal.overflow_add-passes
overflow_add-passes c =
    let few =
    passes_few (terms_of c.args.crowd.now c.args.seats.now c.args.prices.now c.args.raise) (map sections_of c.args.bundles.now)
    (held_on c.loop-changed.stage.floor) c.loop-changed.stage.turns.items c.loop-changed.passes
    (under_way c.loop-changed.changed (terms_of c.args.crowd.now c.args.seats.now c.args.prices.now c.args.raise) (map sections_of c.args.bundles.now)
    (held_on c.loop-changed.stage.floor) c.loop-changed.stage.turns.items c.loop-changed.passes c.loop-changed-test.true c.loop-changed.invariant.0) in
    let turns = c.loop-changed.stage.turns in
    omega (arith, few, turns.ok.0, turns.ok.1, turns.small)

pub run_pass-requires-clause-order : goal.run_pass-requires-clause-order
run_pass-requires-clause-order c =
    rw c.deref-in-loop-changed.ensures.value
    (order_within c.in_ok-order.order.items c.args.crowd.now.menus.items c.args.crowd.now.budgets.items c.args.crowd.now.same
    (rw c.deref.ensures.value at c.in_ok-order.ensures.value))

pub loop-changed-smaller : goal.loop-changed-smaller
loop-changed-smaller c =
    subst
    (λ before. measure (terms_of c.args.crowd.now c.args.seats.now c.args.prices.now c.args.raise) (held_on c.run_pass.new.self.floor)
    c.in_ok-changed.changed
    < measure (terms_of c.args.crowd.now c.args.seats.now c.args.prices.now c.args.raise) (held_on c.loop-changed.stage.floor) before)
    (sym c.loop-changed-test.true)
    (measure_falls (terms_of c.args.crowd.now c.args.seats.now c.args.prices.now c.args.raise) _ _ (held_on c.loop-changed.stage.floor) (held_on c.run_pass.new.self.floor) c.loop-changed.stage.turns.items c.run_pass.new.self.turns.items c.in_ok-changed.changed
    c.args.crowd.now.whole c.loop-changed.invariant.1.choices c.in_ok-changed.ensures.turns)

pub loop-changed-preserved : goal.loop-changed-preserved
loop-changed-preserved c =
    let now = c.loop-changed.stage in
    let later = c.run_pass.new.self in
    let way =
    under_way c.loop-changed.changed (terms_of c.args.crowd.now c.args.seats.now c.args.prices.now c.args.raise) (map sections_of c.args.bundles.now)
    (held_on now.floor) now.turns.items c.loop-changed.passes c.loop-changed-test.true c.loop-changed.invariant.0 in
    let order =
    ap (map (λ student. student.0)) c.deref-in-loop-changed.ensures.value ∙ c.in_ok-order.ensures.value
    ∙ ap (λ budgets. after_order_of (map (λ budget. budget.0) budgets)) c.deref.ensures.value
    ∙ ap after_order_of (budgets_same c.args.crowd.now.menus.items c.args.crowd.now.budgets.items c.args.crowd.now.same) in
    let run = subst (λ students. HaveTurned (terms_of c.args.crowd.now c.args.seats.now c.args.prices.now c.args.raise) (c.loop-changed.passes + 1) students (held_on now.floor) (held_on later.floor) now.turns.items later.turns.items c.in_ok-changed.changed) order c.in_ok-changed.ensures.turns in (
      goes_on (terms_of c.args.crowd.now c.args.seats.now c.args.prices.now c.args.raise) (map sections_of c.args.bundles.now) (held_on now.floor)
          (held_on later.floor) now.turns.items later.turns.items c.loop-changed.passes c.in_ok-changed.changed way run,
      c.in_ok-changed.ensures.stands,
    )

pub close-requires : goal.close-requires
close-requires c =
    let few : length (held_on c.loop-changed.stage.floor) ≤ 2000 =
    omega (
      arith,
      choices_length c.args.crowd.now c.args.seats.now c.args.prices.now c.args.raise (held_on c.loop-changed.stage.floor) c.loop-changed.invariant.1.choices,
      menus_few c.args.crowd.now,
    ) in
    counts_few (length c.args.seats.now) (held_on c.loop-changed.stage.floor) c.loop-changed.stage.floor.used.items
    c.loop-changed.invariant.1.counted.counts few

pub returns-clause-used : goal.returns-clause-used
returns-clause-used c =
    let counts =
    counts_are (length c.args.seats.now) (held_on c.loop-changed.stage.floor) c.loop-changed.stage.floor.used.items c.loop-changed.invariant.1.counted.counts in
    if_both c.close.result _ _ _
    (λ after used bundles. used ∙ counts
    ∙ ap (λ items. map (λ s. holders s (map sections_of items)) (places_from 0 (length c.args.seats.now))) (sym bundles)
    ∙ ap (λ n. map (λ s. holders s (map sections_of after.bundles.items)) (places_from 0 n)) c.requires.seats)
    c.close.ensures.used c.close.ensures.bundles

pub returns-clause-within : goal.returns-clause-within
returns-clause-within c =
    let made =
    is_made c.loop-changed.changed (terms_of c.args.crowd.now c.args.seats.now c.args.prices.now c.args.raise) (map sections_of c.args.bundles.now)
    (held_on c.loop-changed.stage.floor) c.loop-changed.stage.turns.items c.loop-changed.passes c.loop-changed-test.false c.loop-changed.invariant.0 in
    let within =
    made_within (terms_of c.args.crowd.now c.args.seats.now c.args.prices.now c.args.raise) (map sections_of c.args.bundles.now)
    (held_on c.loop-changed.stage.floor) c.loop-changed.stage.turns.items c.loop-changed.passes made c.requires.within in
    IfOk-weaker c.close.result _ _
    (λ after bundles. subst (λ items. AreHeldWithin c.args.crowd.now.sections c.args.seats.now (map sections_of items)) (sym bundles) within)
    c.close.ensures.bundles
