use Rattle.std.proofs.Common.{ℕ, ◌≡◌, ◌≢◌, ◌<◌, ◌≤◌, ◌∙◌, true, false, nat_eq, below_more, length, map, ap, sym, arith, rules}
use Rattle.std.specs.Vec.{vec_len}
use Rattle.std.proofs.lemmas.Bool.Decides.{nat_tests}
use Rattle.std.proofs.lemmas.List.{length-map}
use Rattle.market_units.specs.declared.units.StudentNo.{StudentNo}
use Rattle.budget_draw.specs.AfterOrder.{after_order_of}
use Rattle.budget_draw.specs.Budgets.{amounts}
use Rattle.market_certificate.specs.Views.{publication_of, turn_of}
use Rattle.demand_api.proofs.Parts.{menus_few, students_length}
use Rattle.certificate_checker.specs.Turns.{order_in}
use Rattle.certificate_checker.specs.Views.{terms_of}
use Rattle.certificate_checker.proofs.Reading.{fewer}
use Rattle.certificate_checker.proofs.TurnReading.{ends_early, ends_quietly}
use Rattle.certificate_checker.proofs.Turning.{held_whole, order_is_long}
use Rattle.certificate_checker.proofs.turns.check_turns.Goals as goal
use Rattle.market_crowd.proofs.CrowdFacts.{budgets_of_crowd}

is_zero : (n : ℕ) → nat_eq n 0 ≡ true → n ≡ 0
is_zero n e = grind (arith, nat_tests)

not_zero : (n : ℕ) → nat_eq n 0 ≡ false → n ≢ 0
not_zero n e = grind (arith, nat_tests)

pub after_order-requires : goal.after_order-requires
after_order-requires c =
    let few : length c.args.printed.now.terms.now.crowd.menus.items ≤ 2000 = menus_few c.args.printed.now.terms.now.crowd in
    let same : length c.args.printed.now.terms.now.crowd.budgets.items ≡ length c.args.printed.now.terms.now.crowd.menus.items = c.args.printed.now.terms.now.crowd.same in
    search rules

pub turns-init : goal.turns-init
turns-init c = record {
  right = λ n low. absurd (omega arith);
  progress = c.start-progress.ensures (length c.args.printed.now.terms.now.crowd.menus.items) (publication_of c.args.printed.now.publication.now);
  floor = c.requires.floor;
}

pub take_turn-requires-clause-turn : goal.take_turn-requires-clause-turn
take_turn-requires-clause-turn c = record {
  can = c.args.printed.now.can;
  few = c.args.printed.now.few;
  low = search rules;
  order_is =
      ap (map (λ (student : StudentNo). student.0)) c.deref-in-turns.ensures.value ∙ c.in_ok-order.ensures.value
      ∙ ap after_order_of
      (ap amounts c.deref.ensures.value ∙ sym (budgets_of_crowd c.args.printed.now.terms.now.crowd.menus.items c.args.printed.now.terms.now.crowd.budgets.items c.args.printed.now.terms.now.crowd.same));
  so_far = c.turns.invariant.progress;
}

pub turns-preserved : goal.turns-preserved
turns-preserved c = record {
  right = below_more _ _ c.turns.invariant.right c.in_ok-progress.ensures.right;
  progress = c.in_ok-progress.ensures.progress;
  floor = c.in_ok-progress.ensures.floor;
}

pub returns-then-is_empty-clause-floor : goal.returns-then-is_empty-clause-floor
returns-then-is_empty-clause-floor c =
    let turns = length-map c.args.printed.now.publication.now.turns.items turn_of in
    let past : length (publication_of c.args.printed.now.publication.now).turns ≤ c.turns.place = omega arith in
    record {
      is_floor = c.turns.invariant.floor.is_floor;
      held = c.turns.invariant.floor.held ∙ held_whole (publication_of c.args.printed.now.publication.now) c.turns.place past;
    }

pub returns-then-is_empty-clause-ok : goal.returns-then-is_empty-clause-ok
returns-then-is_empty-clause-ok c =
    let order : map (λ (student : StudentNo). student.0) c.in_ok-order.order.items ≡ order_in (terms_of c.args.printed.now.terms.now).crowd =
    c.in_ok-order.ensures.value
    ∙ ap after_order_of
    (ap amounts c.deref.ensures.value
    ∙ sym (budgets_of_crowd c.args.printed.now.terms.now.crowd.menus.items c.args.printed.now.terms.now.crowd.budgets.items c.args.printed.now.terms.now.crowd.same)) in
    let long : length c.in_ok-order.order.items ≡ length c.args.printed.now.terms.now.crowd.menus.items =
    order_is_long c.args.printed.now.terms.now c.in_ok-order.order.items order in
    let students = students_length c.args.printed.now.terms.now.crowd in
    let turns = length-map c.args.printed.now.publication.now.turns.items turn_of in
    let empty : vec_len c.in_ok-order.order ≡ 0 = is_zero (vec_len c.in_ok-order.order) (sym c.is_empty.ensures ∙ c.if-is_empty.true) in
    ((c.requires.before, fewer _ c.turns.place _ (omega arith) c.turns.invariant.right), λ some. absurd (omega arith))

pub returns-then-progress-clause-floor : goal.returns-then-progress-clause-floor
returns-then-progress-clause-floor c =
    let turns = length-map c.args.printed.now.publication.now.turns.items turn_of in
    let past : length (publication_of c.args.printed.now.publication.now).turns ≤ c.turns.place = omega arith in
    record {
      is_floor = c.turns.invariant.floor.is_floor;
      held = c.turns.invariant.floor.held ∙ held_whole (publication_of c.args.printed.now.publication.now) c.turns.place past;
    }

pub returns-then-progress-clause-ok : goal.returns-then-progress-clause-ok
returns-then-progress-clause-ok c =
    let turns = length-map c.args.printed.now.publication.now.turns.items turn_of in
    let at : c.turns.place ≡ length c.args.printed.now.publication.now.turns.items = omega arith in (
      (c.requires.before, fewer _ c.turns.place _ (omega arith) c.turns.invariant.right),
      ends_quietly c.args.printed.now.terms.now c.args.printed.now.publication.now c.turns.place c.turns.progress c.args.printed.now.can at c.turns.invariant.progress c.if-progress.true,
    )

pub returns-clause-first : goal.returns-clause-first
returns-clause-first c =
    let order : map (λ (student : StudentNo). student.0) c.in_ok-order.order.items ≡ order_in (terms_of c.args.printed.now.terms.now).crowd =
    c.in_ok-order.ensures.value
    ∙ ap after_order_of
    (ap amounts c.deref.ensures.value
    ∙ sym (budgets_of_crowd c.args.printed.now.terms.now.crowd.menus.items c.args.printed.now.terms.now.crowd.budgets.items c.args.printed.now.terms.now.crowd.same)) in
    let long : length c.in_ok-order.order.items ≡ length c.args.printed.now.terms.now.crowd.menus.items =
    order_is_long c.args.printed.now.terms.now c.in_ok-order.order.items order in
    let turns = length-map c.args.printed.now.publication.now.turns.items turn_of in
    let at : c.turns.place ≡ length c.args.printed.now.publication.now.turns.items = omega arith in
    let full : vec_len c.in_ok-order.order ≢ 0 = not_zero (vec_len c.in_ok-order.order) (sym c.is_empty.ensures ∙ c.if-is_empty.false) in
    let same : c.len.result ≡ length (map turn_of c.args.printed.now.publication.now.turns.items) = omega arith in
    let some : 0 < length c.args.printed.now.terms.now.crowd.menus.items = omega arith in
    record {
      before = (c.requires.before, fewer _ c.turns.place _ (omega arith) c.turns.invariant.right);
      found = (
        same,
        ends_early c.args.printed.now.terms.now c.args.printed.now.publication.now c.turns.place c.turns.progress c.args.printed.now.can at c.turns.invariant.progress some
            c.if-progress.false,
      );
    }
