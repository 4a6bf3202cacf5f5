use Rattle.std.proofs.Common.{rules, ap, arith, sym, ◌∙◌, ◌∷◌}
use Rattle.atomic_table.specs.Table.{rest}
use Rattle.chronicle.specs.declared.kept.Kept.{Kept}
use Rattle.chronicle.specs.declared.origin.Origin.{Origin}
use Rattle.chronicle.specs.Seats.{origin_of}
use Rattle.chronicle.proofs.Calls.{table_of, may_call, is_waiting, may_step, has_to_pass, call_made}
use Rattle.chronicle.proofs.TurnSteps.{draws_at, may_step_now, steps_on, passes_at}
use Rattle.chronicle.proofs.chronicle.Chronicle.call.Goals as goal

pub fetch_add-ticket-requires : goal.fetch_add-ticket-requires
fetch_add-ticket-requires g c = (
  table_of g.O.Object.base g.O.Object.state g.O.Object.room g.O.Object.sound g.O.Object.after g.O.Object.reply c.seat.inside.place.table_id
      c.args.self.now _ _ _
      c.seat.invariant c.seat.view_is c.requires.chronicle ∙ sym (ap (λ (o : Origin _ _). o.table) c.self.view_is),
  search rules,
  draws_at g.O.Object.base g.O.Object.state g.O.Object.room g.O.Object.sound g.O.Object.after g.O.Object.reply _ _ c.seat.inside.place.me
      (may_call g.O.Object.base g.O.Object.state g.O.Object.room g.O.Object.sound g.O.Object.after g.O.Object.reply _ _ _ c.args.seat.now
      c.seat.invariant
      c.seat.view_is c.requires.left),
)

pub wait-requires-clause-own : goal.wait-requires-clause-own
wait-requires-clause-own g c =
    c.fetch_add-ticket.ensures.0
    ∙ table_of g.O.Object.base g.O.Object.state g.O.Object.room g.O.Object.sound g.O.Object.after g.O.Object.reply c.seat.inside.place.table_id
    c.args.self.now _ _ _
    c.seat.invariant c.seat.view_is c.requires.chronicle

pub wait-requires-clause-waits : goal.wait-requires-clause-waits
wait-requires-clause-waits g c =
    is_waiting g.O.Object.base g.O.Object.state g.O.Object.room g.O.Object.sound g.O.Object.after g.O.Object.reply _ _ _ _ c.seat.invariant
    c.fetch_add-ticket.ensures.2

pub slot_mut-kept-requires : goal.slot_mut-kept-requires
slot_mut-kept-requires g c =
    let may = may_step g.O.Object.base g.O.Object.state g.O.Object.room g.O.Object.sound g.O.Object.after g.O.Object.reply _ _ _ _ _ _ _ _ _
    c.seat.invariant c.seat.view_is c.requires.chronicle c.requires.sound c.fetch_add-ticket.ensures.2 c.wait.ensures.turn in
    let held = ap (λ me. me.1) may.is in (
      c.wait.ensures.own.0 ∙ c.fetch_add-ticket.ensures.0
          ∙ table_of g.O.Object.base g.O.Object.state g.O.Object.room g.O.Object.sound g.O.Object.after g.O.Object.reply c.seat.inside.place.table_id
          c.args.self.now _ _ _
          c.seat.invariant c.seat.view_is c.requires.chronicle ∙ sym (ap (λ (o : Origin _ _). o.table) c.self.view_is),
      (may.kept, held ∙ ap (λ l. (0, may.kept) ∷ rest l) (sym held)),
    )

pub step-reply-requires-clause-sound : goal.step-reply-requires-clause-sound
step-reply-requires-clause-sound g c =
    (may_step_now g.O.Object.base g.O.Object.state g.O.Object.room g.O.Object.sound g.O.Object.after g.O.Object.reply c.wait.new.place.me
    c.seat.inside.number c.args.request
    c.slot_mut-kept.result.now
    (may_step g.O.Object.base g.O.Object.state g.O.Object.room g.O.Object.sound g.O.Object.after g.O.Object.reply _ _ _ _ _ _ _ _ _
    c.seat.invariant c.seat.view_is c.requires.chronicle c.requires.sound c.fetch_add-ticket.ensures.2 c.wait.ensures.turn)
    c.slot_mut-kept.ensures.value).0

pub step-reply-requires-clause-room : goal.step-reply-requires-clause-room
step-reply-requires-clause-room g c =
    (may_step_now g.O.Object.base g.O.Object.state g.O.Object.room g.O.Object.sound g.O.Object.after g.O.Object.reply c.wait.new.place.me
    c.seat.inside.number c.args.request
    c.slot_mut-kept.result.now
    (may_step g.O.Object.base g.O.Object.state g.O.Object.room g.O.Object.sound g.O.Object.after g.O.Object.reply _ _ _ _ _ _ _ _ _
    c.seat.invariant c.seat.view_is c.requires.chronicle c.requires.sound c.fetch_add-ticket.ensures.2 c.wait.ensures.turn)
    c.slot_mut-kept.ensures.value).1

pub push_reserved-requires : goal.push_reserved-requires
push_reserved-requires g c =
    let few = (may_step_now g.O.Object.base g.O.Object.state g.O.Object.room g.O.Object.sound g.O.Object.after g.O.Object.reply c.wait.new.place.me
    c.seat.inside.number c.args.request
    c.slot_mut-kept.result.now
    (may_step g.O.Object.base g.O.Object.state g.O.Object.room g.O.Object.sound g.O.Object.after g.O.Object.reply _ _ _ _ _ _ _ _ _
    c.seat.invariant c.seat.view_is c.requires.chronicle c.requires.sound c.fetch_add-ticket.ensures.2 c.wait.ensures.turn)
    c.slot_mut-kept.ensures.value).2 in
    omega (arith, few, c.slot_mut-kept.result.now.journal.ok.0)

pub fetch_add-served-requires : goal.fetch_add-served-requires
fetch_add-served-requires g c =
    let may = may_step g.O.Object.base g.O.Object.state g.O.Object.room g.O.Object.sound g.O.Object.after g.O.Object.reply _ _ _ _ _ _ _ _ _
    c.seat.invariant c.seat.view_is c.requires.chronicle c.requires.sound c.fetch_add-ticket.ensures.2 c.wait.ensures.turn in
    let after : Kept _ _ _ = record { object = c.step-reply.new.self; journal = c.push_reserved.new.self } in
    let steps = steps_on g.O.Object.base g.O.Object.state g.O.Object.room g.O.Object.sound g.O.Object.after g.O.Object.reply c.wait.new.place.me
    c.slot_mut-kept.result.now
    after c.seat.inside.number c.args.request c.step-reply.result may c.slot_mut-kept.ensures.value c.step-reply.ensures.base
    c.step-reply.ensures.state c.step-reply.ensures.reply c.step-reply.ensures.room c.push_reserved.ensures.items c.push_reserved.ensures.capacity in (
      c.wait.ensures.own.0 ∙ c.fetch_add-ticket.ensures.0
          ∙ table_of g.O.Object.base g.O.Object.state g.O.Object.room g.O.Object.sound g.O.Object.after g.O.Object.reply c.seat.inside.place.table_id
          c.args.self.now _ _ _
          c.seat.invariant c.seat.view_is c.requires.chronicle ∙ sym (ap (λ (o : Origin _ _). o.table) c.self.view_is),
      search rules,
      passes_at g.O.Object.base g.O.Object.state g.O.Object.room g.O.Object.sound g.O.Object.after g.O.Object.reply _ _ _ _
          (has_to_pass g.O.Object.base g.O.Object.state g.O.Object.room g.O.Object.sound g.O.Object.after g.O.Object.reply _ _ _ _ _ may steps),
    )

pub invariant_of-seat : goal.invariant_of-seat
invariant_of-seat g c =
    let may = may_step g.O.Object.base g.O.Object.state g.O.Object.room g.O.Object.sound g.O.Object.after g.O.Object.reply _ _ _ _ _ _ _ _ _
    c.seat.invariant c.seat.view_is c.requires.chronicle c.requires.sound c.fetch_add-ticket.ensures.2 c.wait.ensures.turn in
    let after : Kept _ _ _ = record { object = c.step-reply.new.self; journal = c.push_reserved.new.self } in
    let steps = steps_on g.O.Object.base g.O.Object.state g.O.Object.room g.O.Object.sound g.O.Object.after g.O.Object.reply c.wait.new.place.me
    c.slot_mut-kept.result.now
    after c.seat.inside.number c.args.request c.step-reply.result may c.slot_mut-kept.ensures.value c.step-reply.ensures.base
    c.step-reply.ensures.state c.step-reply.ensures.reply c.step-reply.ensures.room c.push_reserved.ensures.items c.push_reserved.ensures.capacity in
    (call_made g.O.Object.base g.O.Object.state g.O.Object.room g.O.Object.sound g.O.Object.after g.O.Object.reply _ _ _ _ _ _ _ _ _ _ _ _
    c.seat.invariant c.seat.view_is c.requires.chronicle c.requires.left c.requires.sound c.fetch_add-ticket.ensures.2 c.wait.ensures.turn steps
    c.fetch_add-served.ensures.2).at_rest

pub returns : goal.returns
returns g c =
    let table = c.fetch_add-served.ensures.0 ∙ c.wait.ensures.own.0 ∙ c.fetch_add-ticket.ensures.0 in
    let may = may_step g.O.Object.base g.O.Object.state g.O.Object.room g.O.Object.sound g.O.Object.after g.O.Object.reply _ _ _ _ _ _ _ _ _
    c.seat.invariant c.seat.view_is c.requires.chronicle c.requires.sound c.fetch_add-ticket.ensures.2 c.wait.ensures.turn in
    let after : Kept _ _ _ = record { object = c.step-reply.new.self; journal = c.push_reserved.new.self } in
    let steps = steps_on g.O.Object.base g.O.Object.state g.O.Object.room g.O.Object.sound g.O.Object.after g.O.Object.reply c.wait.new.place.me
    c.slot_mut-kept.result.now
    after c.seat.inside.number c.args.request c.step-reply.result may c.slot_mut-kept.ensures.value c.step-reply.ensures.base
    c.step-reply.ensures.state c.step-reply.ensures.reply c.step-reply.ensures.room c.push_reserved.ensures.items c.push_reserved.ensures.capacity in
    let made = call_made g.O.Object.base g.O.Object.state g.O.Object.room g.O.Object.sound g.O.Object.after g.O.Object.reply _ _ _ _ _ _ _ _ _ _ _ _
    c.seat.invariant c.seat.view_is c.requires.chronicle c.requires.left c.requires.sound c.fetch_add-ticket.ensures.2 c.wait.ensures.turn steps
    c.fetch_add-served.ensures.2 in
    record {
      seen = made.seen;
      legal = made.legal;
      own = made.own;
      all_own = made.all_own;
      others = made.others;
      left = made.left;
      same = (ap (λ t. origin_of t c.fetch_add-served.new.seat.me.0) table ∙ made.chronicle, ap (λ s. s.number) c.seat.view_is);
    }
