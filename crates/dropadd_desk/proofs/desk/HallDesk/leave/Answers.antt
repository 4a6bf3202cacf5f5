use Rattle.std.proofs.Common.{◌≡◌, ◌==◌, ◌+◌, ◌∙◌, [], ap, sym, subst, None, Some, get_or, refl}
use Rattle.std.specs.Prelude.{position}
use Rattle.std.specs.List.{remove_range}
use Rattle.held_seats.specs.Floors.{held_on}
use Rattle.dropadd_desk.specs.declared.reply.HallReply.TheVariants as reply
use Rattle.dropadd_desk.specs.Halls.{IsHall}
use Rattle.dropadd_desk.specs.HallView.{market_of, state_of}
use Rattle.dropadd_desk.specs.Market.{student_count}
use Rattle.dropadd_desk.specs.Step.{waiting_for}
use Rattle.dropadd_desk.proofs.DeskLemmas.{cut_out, leave_named_is, leave_unknown_is, left_is, not_waiting_is, stands, stands_not}
use Rattle.dropadd_desk.proofs.StateLemmas.{waiting_changed}
use Rattle.dropadd_desk.proofs.Steps.{left_keeps}
use Rattle.dropadd_desk.proofs.desk.HallDesk.leave.Goals as goal

pub returns-in-Err : goal.returns-in-Err
returns-in-Err c = record {
  market = refl;
  outcome = leave_unknown_is (market_of c.args.self.now) (state_of c.args.self.now) c.args.student.now c.args.section.now c.in-Err.reply c.in-Err.ensures.unknown;
  room = refl;
}

pub returns-in_default : goal.returns-in_default
returns-in_default c =
    let list = c.items.ensures ∙ ap (λ n. get_or c.args.self.now.lists.lists n []) c.from-list.ensures in
    record {
      market = refl;
      outcome =
          not_waiting_is (market_of c.args.self.now) (state_of c.args.self.now) c.in-Ok.known.0.0 c.in-Ok.known.1.0
          (stands_not c.in-Ok.known.0.0 (waiting_for (state_of c.args.self.now) c.in-Ok.known.1.0)
          (subst (λ l. position (λ other. other == c.in-Ok.known.0.0) l ≡ None) list (sym c.place_of.ensures ∙ c.in_default.is)))
          ∙ leave_named_is (market_of c.args.self.now) (state_of c.args.self.now) c.args.student.now c.args.section.now c.in-Ok.known.0.0 c.in-Ok.known.1.0
          c.in-Ok.ensures.student c.in-Ok.ensures.section;
      room = refl;
    }

pub invariant_of-self : goal.invariant_of-self
invariant_of-self c =
    let list = c.items.ensures ∙ ap (λ n. get_or c.args.self.now.lists.lists n []) c.from-list.ensures in
    let at = subst (λ l. position (λ other. other == c.in-Ok.known.0.0) l ≡ Some c.in-Some.place) list (sym c.place_of.ensures ∙ c.in-Some.is) in
    let changed =
    waiting_changed (held_on c.args.self.now.floor) c.args.self.now.lists c.take_out.new.self c.from-list.result c.in-Ok.known.1.0 _ _ c.take_out.ensures
    c.from-list.ensures
    (ap (λ n. remove_range (get_or c.args.self.now.lists.lists n []) c.in-Some.place (c.in-Some.place + 1)) c.from-list.ensures
    ∙ cut_out (student_count (market_of c.args.self.now)) c.in-Ok.known.0.0 c.in-Some.place (waiting_for (state_of c.args.self.now) c.in-Ok.known.1.0) (c.args.self.now.hall.queues c.in-Ok.known.1.0) at) in
    record {
      is_market = c.args.self.now.is_market;
      counted = c.args.self.now.counted;
      hall =
          subst (IsHall c.args.self.now.rules) (sym changed)
          (left_keeps (market_of c.args.self.now) (state_of c.args.self.now) c.args.self.now.hall c.in-Ok.known.0.0 c.in-Ok.known.1.0 c.in-Ok.ensures.known.section);
      wide = ap (λ l. l.width) c.take_out.ensures ∙ c.args.self.now.wide;
    }

pub returns : goal.returns
returns c =
    let list = c.items.ensures ∙ ap (λ n. get_or c.args.self.now.lists.lists n []) c.from-list.ensures in
    let at = subst (λ l. position (λ other. other == c.in-Ok.known.0.0) l ≡ Some c.in-Some.place) list (sym c.place_of.ensures ∙ c.in-Some.is) in
    let changed =
    waiting_changed (held_on c.args.self.now.floor) c.args.self.now.lists c.take_out.new.self c.from-list.result c.in-Ok.known.1.0 _ _ c.take_out.ensures
    c.from-list.ensures
    (ap (λ n. remove_range (get_or c.args.self.now.lists.lists n []) c.in-Some.place (c.in-Some.place + 1)) c.from-list.ensures
    ∙ cut_out (student_count (market_of c.args.self.now)) c.in-Ok.known.0.0 c.in-Some.place (waiting_for (state_of c.args.self.now) c.in-Ok.known.1.0) (c.args.self.now.hall.queues c.in-Ok.known.1.0) at) in
    record {
      market = refl;
      outcome =
          ap (λ st. (reply.Left, st)) changed
          ∙ left_is (market_of c.args.self.now) (state_of c.args.self.now) c.in-Ok.known.0.0 c.in-Ok.known.1.0
          (stands c.in-Ok.known.0.0 c.in-Some.place (waiting_for (state_of c.args.self.now) c.in-Ok.known.1.0) at)
          ∙ leave_named_is (market_of c.args.self.now) (state_of c.args.self.now) c.args.student.now c.args.section.now c.in-Ok.known.0.0 c.in-Ok.known.1.0
          c.in-Ok.ensures.student c.in-Ok.ensures.section;
      room = refl;
    }
