use Rattle.std.proofs.Common.{◌<◌, ◌∙◌, ap, sym, subst, length, refl}
use Rattle.std.proofs.lemmas.List.{length-map}
use Rattle.course_catalog.specs.Sections.{Section}
use Rattle.market_units.specs.Members.{has}
use Rattle.held_seats.specs.Floors.{IsFloor, held_on}
use Rattle.dropadd_desk.specs.Halls.{IsHall}
use Rattle.dropadd_desk.specs.HallView.{market_of, state_of}
use Rattle.bundle_rules.specs.Sets.{without_section}
use Rattle.dropadd_desk.specs.Step.{pass_on}
use Rattle.dropadd_desk.proofs.BundleParts.{sections_at}
use Rattle.dropadd_desk.proofs.DeskLemmas.{drop_named_is, drop_unknown_is, dropped_is, not_holding_is}
use Rattle.dropadd_desk.proofs.StateLemmas.{held_changed}
use Rattle.dropadd_desk.proofs.Steps.{without_keeps, without_within}
use Rattle.dropadd_desk.proofs.desk.HallDesk.give_up.Goals as goal

pub returns-in-Err : goal.returns-in-Err
returns-in-Err c = record {
  market = refl;
  outcome = drop_unknown_is (market_of c.args.self.now) (state_of c.args.self.now) c.args.student.now c.args.section.now c.in-Err.reply c.in-Err.ensures.unknown;
  room = refl;
}

pub returns-then-not-has : goal.returns-then-not-has
returns-then-not-has c =
    let held =
    sections_at c.args.self.now.floor.held.items c.in-Ok.known.0.0 c.from-place.result c.index.result.now c.from-place.ensures
    (subst (λ n. c.in-Ok.known.0.0 < n) (sym c.args.self.now.hall.each_student) c.in-Ok.ensures.known.student) c.index.ensures in
    record {
      market = refl;
      outcome =
          not_holding_is (market_of c.args.self.now) (state_of c.args.self.now) c.in-Ok.known.0.0 c.in-Ok.known.1.0
          (ap (λ l. has l c.in-Ok.known.1.0) (sym held) ∙ sym c.has.ensures ∙ c.if-not-has.true)
          ∙ drop_named_is (market_of c.args.self.now) (state_of c.args.self.now) c.args.student.now c.args.section.now c.in-Ok.known.0.0 c.in-Ok.known.1.0
          c.in-Ok.ensures.student c.in-Ok.ensures.section;
      room = refl;
    }

pub give-requires-clause-within : goal.give-requires-clause-within
give-requires-clause-within c = λ t there.
    let held =
    sections_at c.args.self.now.floor.held.items c.in-Ok.known.0.0 c.from-place.result c.index.result.now c.from-place.ensures
    (subst (λ n. c.in-Ok.known.0.0 < n) (sym c.args.self.now.hall.each_student) c.in-Ok.ensures.known.student) c.index.ensures in
    let bundle = c.without_section-bundle.ensures ∙ ap (without_section c.in-Ok.known.1.0) held in
    let count = ap length c.seats.ensures.seats ∙ length-map c.args.self.now.rules.catalog.sections (λ (section : Section). section.seats) in
    subst (λ n. t < n) (sym count)
    (without_within (market_of c.args.self.now) (state_of c.args.self.now) c.args.self.now.hall c.in-Ok.known.0.0 c.in-Ok.known.1.0 t
    (ap (λ l. has l t) (sym bundle) ∙ there))

pub invariant_of-self-2 : goal.invariant_of-self-2
invariant_of-self-2 c =
    let held =
    sections_at c.args.self.now.floor.held.items c.in-Ok.known.0.0 c.from-place.result c.index.result.now c.from-place.ensures
    (subst (λ n. c.in-Ok.known.0.0 < n) (sym c.args.self.now.hall.each_student) c.in-Ok.ensures.known.student) c.index.ensures in
    let changed =
    held_changed (held_on c.args.self.now.floor) (held_on c.give.new.self) c.args.self.now.lists.lists c.from-place.result c.in-Ok.known.0.0 _ _
    c.give.ensures.held c.from-place.ensures (c.without_section-bundle.ensures ∙ ap (without_section c.in-Ok.known.1.0) held) in
    record {
      is_market = c.args.self.now.is_market;
      counted = subst (λ l. IsFloor l c.give.new.self) c.seats.ensures.seats c.give.ensures.floor;
      hall =
          subst (IsHall c.args.self.now.rules) (sym changed)
          (without_keeps (market_of c.args.self.now) (state_of c.args.self.now) c.args.self.now.hall c.in-Ok.known.0.0 c.in-Ok.known.1.0 c.in-Ok.ensures.known.student);
      wide = c.args.self.now.wide;
    }

pub returns : goal.returns
returns c =
    let held =
    sections_at c.args.self.now.floor.held.items c.in-Ok.known.0.0 c.from-place.result c.index.result.now c.from-place.ensures
    (subst (λ n. c.in-Ok.known.0.0 < n) (sym c.args.self.now.hall.each_student) c.in-Ok.ensures.known.student) c.index.ensures in
    let changed =
    held_changed (held_on c.args.self.now.floor) (held_on c.give.new.self) c.args.self.now.lists.lists c.from-place.result c.in-Ok.known.0.0 _ _
    c.give.ensures.held c.from-place.ensures (c.without_section-bundle.ensures ∙ ap (without_section c.in-Ok.known.1.0) held) in
    record {
      market = c.pass_on.ensures.market;
      outcome =
          c.pass_on.ensures.outcome ∙ ap (λ st. pass_on (market_of c.args.self.now) st c.in-Ok.known.1.0) changed
          ∙ dropped_is (market_of c.args.self.now) (state_of c.args.self.now) c.in-Ok.known.0.0 c.in-Ok.known.1.0
          (ap (λ l. has l c.in-Ok.known.1.0) (sym held) ∙ sym c.has.ensures ∙ c.if-not-has.false)
          ∙ drop_named_is (market_of c.args.self.now) (state_of c.args.self.now) c.args.student.now c.args.section.now c.in-Ok.known.0.0 c.in-Ok.known.1.0
          c.in-Ok.ensures.student c.in-Ok.ensures.section;
      room = c.pass_on.ensures.room;
    }
