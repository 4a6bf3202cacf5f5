use Rattle.std.proofs.Common.{◌<◌, ◌≤◌, ◌++◌, ◌∙◌, [], ◌∷◌, ap, sym, subst, arith, length, get_or, refl}
use Rattle.std.proofs.lemmas.List.{length-append}
use Rattle.held_seats.specs.Floors.{held_on}
use Rattle.dropadd_desk.specs.declared.reply.HallReply.TheVariants as reply
use Rattle.dropadd_desk.specs.Halls.{IsHall}
use Rattle.dropadd_desk.specs.HallView.{market_of, state_of}
use Rattle.dropadd_desk.specs.Market.{section_count, student_count}
use Rattle.dropadd_desk.specs.Step.{waiting_for}
use Rattle.dropadd_desk.proofs.DeskLemmas.{add_named_is, add_unknown_is, added_is, queued_is, refused_is, same_outcome}
use Rattle.dropadd_desk.proofs.Queues.{queue_few, queue_more}
use Rattle.dropadd_desk.proofs.StateLemmas.{free_on, waiting_changed}
use Rattle.dropadd_desk.proofs.Stepped.{refusal_none}
use Rattle.dropadd_desk.proofs.Steps.{queued_keeps}
use Rattle.dropadd_desk.proofs.desk.HallDesk.add.Goals as goal

pub returns-in-Err : goal.returns-in-Err
returns-in-Err c = record {
  market = refl;
  outcome = add_unknown_is (market_of c.args.self.now) (state_of c.args.self.now) c.args.student.now c.args.section.now c.in-Err.reply c.in-Err.ensures.unknown;
  room = refl;
}

pub returns-in-Some : goal.returns-in-Some
returns-in-Some c = record {
  market = refl;
  outcome =
      refused_is (market_of c.args.self.now) (state_of c.args.self.now) c.in-Ok.known.0.0 c.in-Ok.known.1.0 c.in-Some.answer
      (sym c.refusal.ensures.refusal ∙ c.in-Some.is)
      ∙ add_named_is (market_of c.args.self.now) (state_of c.args.self.now) c.args.student.now c.args.section.now c.in-Ok.known.0.0 c.in-Ok.known.1.0
      c.in-Ok.ensures.student c.in-Ok.ensures.section;
  room = refl;
}

pub give-requires-clause-known : goal.give-requires-clause-known
give-requires-clause-known c = c.in-Ok.ensures.known

pub has-requires : goal.has-requires
has-requires c =
    let low : c.in-Ok.known.1.0 < section_count (market_of c.args.self.now) = c.in-Ok.ensures.known.section in
    let few : section_count (market_of c.args.self.now) ≤ 400 = c.args.self.now.is_market.catalog.few in
    omega (arith, low, few)

pub give-requires-clause-new : goal.give-requires-clause-new
give-requires-clause-new c =
    (refusal_none (market_of c.args.self.now) (state_of c.args.self.now) c.in-Ok.known.0.0 c.in-Ok.known.1.0 (sym c.refusal.ensures.refusal ∙ c.in_default.is)).0

pub give-requires-clause-apart : goal.give-requires-clause-apart
give-requires-clause-apart c =
    (refusal_none (market_of c.args.self.now) (state_of c.args.self.now) c.in-Ok.known.0.0 c.in-Ok.known.1.0 (sym c.refusal.ensures.refusal ∙ c.in_default.is)).1

pub returns-then-has : goal.returns-then-has
returns-then-has c = record {
  market = c.give.ensures.market;
  outcome =
      ap (λ st. (reply.Added, st)) c.give.ensures.state
      ∙ added_is (market_of c.args.self.now) (state_of c.args.self.now) c.in-Ok.known.0.0 c.in-Ok.known.1.0 (sym c.refusal.ensures.refusal ∙ c.in_default.is)
      (sym (free_on (market_of c.args.self.now) c.args.self.now.floor c.args.self.now.lists.lists c.in-Ok.known.1.0 c.args.self.now.counted c.in-Ok.ensures.known.section)
      ∙ sym c.has.ensures ∙ c.if-has.true)
      ∙ add_named_is (market_of c.args.self.now) (state_of c.args.self.now) c.args.student.now c.args.section.now c.in-Ok.known.0.0 c.in-Ok.known.1.0
      c.in-Ok.ensures.student c.in-Ok.ensures.section;
  room = c.give.ensures.room;
}

pub overflow_cast-ahead : goal.overflow_cast-ahead
overflow_cast-ahead c =
    let list = ap length (c.items.ensures ∙ ap (λ n. get_or c.args.self.now.lists.lists n []) c.from-list.ensures) in
    let few =
    queue_few (student_count (market_of c.args.self.now)) (waiting_for (state_of c.args.self.now) c.in-Ok.known.1.0)
    (c.args.self.now.hall.queues c.in-Ok.known.1.0) in
    let most : student_count (market_of c.args.self.now) ≤ 2000 = c.args.self.now.is_market.roll.few in
    omega (arith, list, few, most)

pub push-requires-clause-room : goal.push-requires-clause-room
push-requires-clause-room c =
    let list = ap (λ n. length (get_or c.args.self.now.lists.lists n [])) c.from-list.ensures in
    let waits =
    (refusal_none (market_of c.args.self.now) (state_of c.args.self.now) c.in-Ok.known.0.0 c.in-Ok.known.1.0
    (sym c.refusal.ensures.refusal ∙ c.in_default.is)).1 in
    let more = queue_few (student_count (market_of c.args.self.now)) (waiting_for (state_of c.args.self.now) c.in-Ok.known.1.0 ++ c.in-Ok.known.0.0 ∷ [])
    (queue_more (student_count (market_of c.args.self.now)) c.in-Ok.known.0.0 (waiting_for (state_of c.args.self.now) c.in-Ok.known.1.0)
    (c.args.self.now.hall.queues c.in-Ok.known.1.0) c.in-Ok.ensures.known.student waits) in
    let both = length-append (waiting_for (state_of c.args.self.now) c.in-Ok.known.1.0) (c.in-Ok.known.0.0 ∷ []) in
    omega (arith, list, more, both, c.args.self.now.wide)

pub invariant_of-self : goal.invariant_of-self
invariant_of-self c =
    let none =
    refusal_none (market_of c.args.self.now) (state_of c.args.self.now) c.in-Ok.known.0.0 c.in-Ok.known.1.0 (sym c.refusal.ensures.refusal ∙ c.in_default.is) in
    let changed =
    waiting_changed (held_on c.args.self.now.floor) c.args.self.now.lists c.push.new.self c.from-list.result c.in-Ok.known.1.0 _ _ c.push.ensures
    c.from-list.ensures (ap (λ n. get_or c.args.self.now.lists.lists n [] ++ c.in-Ok.known.0.0 ∷ []) c.from-list.ensures) in
    record {
      is_market = c.args.self.now.is_market;
      counted = c.args.self.now.counted;
      hall =
          subst (IsHall c.args.self.now.rules) (sym changed)
          (queued_keeps (market_of c.args.self.now) (state_of c.args.self.now) c.args.self.now.hall c.in-Ok.known.0.0 c.in-Ok.known.1.0 c.in-Ok.ensures.known.student
          c.in-Ok.ensures.known.section none.0 none.1);
      wide = ap (λ l. l.width) c.push.ensures ∙ c.args.self.now.wide;
    }

pub returns : goal.returns
returns c =
    let list = ap length (c.items.ensures ∙ ap (λ n. get_or c.args.self.now.lists.lists n []) c.from-list.ensures) in
    let changed =
    waiting_changed (held_on c.args.self.now.floor) c.args.self.now.lists c.push.new.self c.from-list.result c.in-Ok.known.1.0 _ _ c.push.ensures
    c.from-list.ensures (ap (λ n. get_or c.args.self.now.lists.lists n [] ++ c.in-Ok.known.0.0 ∷ []) c.from-list.ensures) in
    record {
      market = refl;
      outcome =
          same_outcome _ _ (λ n. reply.Queued n) _ _ list changed
          ∙ queued_is (market_of c.args.self.now) (state_of c.args.self.now) c.in-Ok.known.0.0 c.in-Ok.known.1.0 (sym c.refusal.ensures.refusal ∙ c.in_default.is)
          (sym (free_on (market_of c.args.self.now) c.args.self.now.floor c.args.self.now.lists.lists c.in-Ok.known.1.0 c.args.self.now.counted c.in-Ok.ensures.known.section)
          ∙ sym c.has.ensures ∙ c.if-has.false)
          ∙ add_named_is (market_of c.args.self.now) (state_of c.args.self.now) c.args.student.now c.args.section.now c.in-Ok.known.0.0 c.in-Ok.known.1.0
          c.in-Ok.ensures.student c.in-Ok.ensures.section;
      room = refl;
    }
