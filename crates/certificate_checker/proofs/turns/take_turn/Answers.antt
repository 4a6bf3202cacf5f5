use Rattle.std.proofs.Common.{ℕ, ◌≡◌, ◌<◌, ◌≤◌, ◌+◌, ◌∙◌, List, length, map, ap, sym, subst, arith}
use Rattle.std.specs.Prelude.{slice_set}
use Rattle.std.proofs.lemmas.List.{length-map}
use Rattle.market_units.specs.declared.units.StudentNo.{StudentNo}
use Rattle.bundle_rules.specs.Bundles.{sections_of}
use Rattle.held_seats.specs.Floors.{AreBelow, IsFloor, held_on}
use Rattle.market_certificate.specs.Publications.{ProvedTurn}
use Rattle.market_certificate.specs.Views.{publication_of, turn_of}
use Rattle.demand_api.proofs.Parts.{menus_few}
use Rattle.certificate_checker.specs.Parts.{IsProgress}
use Rattle.certificate_checker.specs.Turns.{turn_in}
use Rattle.certificate_checker.proofs.Reading.{so_of_has}
use Rattle.certificate_checker.proofs.Turning.{before_below, before_length, change_made, got_below, held_next, order_is_long, turn_below, turn_is, turn_student}
use Rattle.certificate_checker.proofs.turns.take_turn.Goals as goal

pub give-moved-requires-clause-place : goal.give-moved-requires-clause-place
give-moved-requires-clause-place c =
    let inside : c.index-turn.result.now.student.0 < length c.args.terms.now.crowd.menus.items =
    turn_student c.args.terms.now c.args.publication.now c.args.place c.index-turn.result.now c.requires.turn.can c.requires.turn.low c.index-turn.ensures in
    let long = before_length c.args.terms.now c.args.publication.now c.args.place c.requires.turn.can in
    let same = c.from.ensures in
    subst (λ held. c.from.result < length held) (sym c.requires.floor.held) (omega arith)

pub give-moved-requires-clause-few : goal.give-moved-requires-clause-few
give-moved-requires-clause-few c =
    let long = before_length c.args.terms.now c.args.publication.now c.args.place c.requires.turn.can in
    let few = menus_few c.args.terms.now.crowd in
    subst (λ held. length held ≤ 2000) (sym c.requires.floor.held) (omega arith)

pub give-moved-requires-clause-below : goal.give-moved-requires-clause-below
give-moved-requires-clause-below c =
    let size : c.args.terms.now.crowd.sections ≡ length c.deref.result.now = sym c.requires.turn.can.seats ∙ ap length (sym c.deref.ensures.value) in
    subst {A = ℕ × List (List ℕ)} (λ both. AreBelow both.0 both.1) (λ i. (size i, sym c.requires.floor.held i))
    (before_below c.args.terms.now c.args.publication.now c.args.place c.requires.turn.can)

pub give-moved-requires-clause-within : goal.give-moved-requires-clause-within
give-moved-requires-clause-within c =
    let size : c.args.terms.now.crowd.sections ≡ length c.deref.result.now = sym c.requires.turn.can.seats ∙ ap length (sym c.deref.ensures.value) in
    λ s is. subst (λ n. s < n) size
    (so_of_has (λ t. t < c.args.terms.now.crowd.sections) (sections_of c.index-turn.result.now.bundle)
    (turn_below c.args.terms.now c.args.publication.now c.args.place c.index-turn.result.now c.requires.turn.can c.requires.turn.low c.index-turn.ensures) s is)

pub after_turn-requires-clause-place : goal.after_turn-requires-clause-place
after_turn-requires-clause-place c =
    let low = got_below (map (λ (student : StudentNo). student.0) c.args.order.now) c.args.progress.place _ c.in-Ok.ensures.due.student in
    let long = length-map c.args.order.now (λ (student : StudentNo). student.0) in
    omega arith

pub returns-clause-progress : goal.returns-clause-progress
returns-clause-progress c =
    let p = publication_of c.args.publication.now in
    let n : length c.args.order.now ≡ length c.args.terms.now.crowd.menus.items =
    order_is_long c.args.terms.now c.args.order.now c.requires.turn.order_is in
    let turn : turn_in p c.args.place ≡ turn_of c.index-turn.result.now =
    turn_is c.args.publication.now c.args.place c.index-turn.result.now c.requires.turn.low c.index-turn.ensures in
    let who : c.from.result ≡ (turn_in p c.args.place).student = c.from.ensures ∙ ap (λ (t : ProvedTurn). t.student) (sym turn) in
    let what : sections_of c.index-turn.result.now.bundle ≡ (turn_in p c.args.place).bundle = ap (λ (t : ProvedTurn). t.bundle) (sym turn) in
    let inside : c.index-turn.result.now.student.0 < length c.args.terms.now.crowd.menus.items =
    turn_student c.args.terms.now c.args.publication.now c.args.place c.index-turn.result.now c.requires.turn.can c.requires.turn.low c.index-turn.ensures in
    let long = before_length c.args.terms.now c.args.publication.now c.args.place c.requires.turn.can in
    let same = c.from.ensures in
    let low : c.from.result < length (held_on c.args.floor.now) = subst (λ held. c.from.result < length held) (sym c.requires.floor.held) (omega arith) in
    subst (λ n. IsProgress n p (c.args.place + 1) c.after_turn.result) n
    (c.after_turn.ensures p c.args.place (subst (λ n. IsProgress n p c.args.place c.args.progress) (sym n) c.requires.turn.so_far)
    (change_made p c.args.place (held_on c.args.floor.now) c.from.result (sections_of c.index-turn.result.now.bundle) c.give-moved.result c.requires.floor.held who what low c.give-moved.ensures.moved c.give-moved.ensures.quiet))

pub returns-clause-floor : goal.returns-clause-floor
returns-clause-floor c =
    let p = publication_of c.args.publication.now in
    let turn : turn_in p c.args.place ≡ turn_of c.index-turn.result.now =
    turn_is c.args.publication.now c.args.place c.index-turn.result.now c.requires.turn.low c.index-turn.ensures in
    let who : c.from.result ≡ (turn_in p c.args.place).student = c.from.ensures ∙ ap (λ (t : ProvedTurn). t.student) (sym turn) in
    let what : sections_of c.index-turn.result.now.bundle ≡ (turn_in p c.args.place).bundle = ap (λ (t : ProvedTurn). t.bundle) (sym turn) in
    let many = length-map c.args.publication.now.turns.items turn_of in
    record {
      is_floor = subst (λ seats. IsFloor seats c.give-moved.new.self) c.deref.ensures.value c.give-moved.ensures.floor;
      held =
          c.give-moved.ensures.held ∙ (λ i. slice_set (c.requires.floor.held i) (who i) (what i))
          ∙ sym (held_next p c.args.place (let low = c.requires.turn.low in omega arith));
    }
