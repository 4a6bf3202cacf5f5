use Rattle.std.proofs.Common.{◌<◌, ◌∙◌, ap, sym, subst, length, refl}
use Rattle.std.proofs.lemmas.List.{length-map}
use Rattle.course_catalog.specs.Sections.{Section}
use Rattle.market_units.specs.Members.{has}
use Rattle.held_seats.specs.Floors.{IsFloor, held_on}
use Rattle.dropadd_desk.specs.Halls.{IsHall}
use Rattle.dropadd_desk.specs.HallView.{market_of, state_of}
use Rattle.dropadd_desk.specs.Sets.{with_section}
use Rattle.dropadd_desk.proofs.BundleParts.{sections_at}
use Rattle.dropadd_desk.proofs.StateLemmas.{held_changed}
use Rattle.dropadd_desk.proofs.Steps.{with_keeps, with_within}
use Rattle.dropadd_desk.proofs.desk.HallDesk.give.Goals as goal

pub give-requires-clause-within : goal.give-requires-clause-within
give-requires-clause-within c = λ t there.
    let held =
    sections_at c.args.self.now.floor.held.items c.args.student.0 c.from-place.result c.index.result.now c.from-place.ensures
    (subst (λ n. c.args.student.0 < n) (sym c.args.self.now.hall.each_student) c.requires.known.student) c.index.ensures in
    let bundle = c.with_section-bundle.ensures ∙ ap (with_section c.args.section.0) held in
    let count = ap length c.seats.ensures.seats ∙ length-map c.args.self.now.rules.catalog.sections (λ (section : Section). section.seats) in
    subst (λ n. t < n) (sym count)
    (with_within (market_of c.args.self.now) (state_of c.args.self.now) c.args.self.now.hall c.args.student.0 c.args.section.0 c.requires.known.section t
    (ap (λ l. has l t) (sym bundle) ∙ there))

pub invariant_of-self : goal.invariant_of-self
invariant_of-self c =
    let held =
    sections_at c.args.self.now.floor.held.items c.args.student.0 c.from-place.result c.index.result.now c.from-place.ensures
    (subst (λ n. c.args.student.0 < n) (sym c.args.self.now.hall.each_student) c.requires.known.student) c.index.ensures in
    let bundle = c.with_section-bundle.ensures ∙ ap (with_section c.args.section.0) held in
    let changed =
    held_changed (held_on c.args.self.now.floor) (held_on c.give.new.self) c.args.self.now.lists.lists c.from-place.result c.args.student.0 _ _
    c.give.ensures.held c.from-place.ensures bundle in
    record {
      is_market = c.args.self.now.is_market;
      counted = subst (λ l. IsFloor l c.give.new.self) c.seats.ensures.seats c.give.ensures.floor;
      hall =
          subst (IsHall c.args.self.now.rules) (sym changed)
          (with_keeps (market_of c.args.self.now) (state_of c.args.self.now) c.args.self.now.hall c.args.student.0 c.args.section.0 c.requires.known.student
          c.requires.known.section c.requires.apart);
      wide = c.args.self.now.wide;
    }

pub returns : goal.returns
returns c =
    let held =
    sections_at c.args.self.now.floor.held.items c.args.student.0 c.from-place.result c.index.result.now c.from-place.ensures
    (subst (λ n. c.args.student.0 < n) (sym c.args.self.now.hall.each_student) c.requires.known.student) c.index.ensures in
    record {
      market = refl;
      state =
          held_changed (held_on c.args.self.now.floor) (held_on c.give.new.self) c.args.self.now.lists.lists c.from-place.result c.args.student.0 _ _
          c.give.ensures.held c.from-place.ensures (c.with_section-bundle.ensures ∙ ap (with_section c.args.section.0) held);
      room = refl;
    }
