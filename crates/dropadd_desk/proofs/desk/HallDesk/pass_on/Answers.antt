use Rattle.std.proofs.Common.{◌≡◌, ◌<◌, ◌≤◌, ◌+◌, ◌∙◌, [], ap, sym, subst, arith, length, drop, get_or, None, Some, false, refl}
use Rattle.std.proofs.lemmas.List.{drop_all}
use Rattle.std.proofs.lemmas.Option.{slice_get-get_or}
use Rattle.market_units.specs.Members.{has}
use Rattle.held_seats.specs.Floors.{held_on}
use Rattle.dropadd_desk.specs.declared.reply.HallReply.TheVariants as reply
use Rattle.dropadd_desk.specs.Halls.{IsHall}
use Rattle.dropadd_desk.specs.HallView.{market_of, state_of}
use Rattle.dropadd_desk.specs.Market.{student_count}
use Rattle.dropadd_desk.specs.Step.{given, held_by, waiting_for}
use Rattle.market_units.proofs.Memberships.{has_at}
use Rattle.dropadd_desk.proofs.DeskLemmas.{fit_for, found_passes, next_is, none_next_is, place_is}
use Rattle.dropadd_desk.proofs.Queues.{none_behind, queue_few}
use Rattle.dropadd_desk.proofs.StateLemmas.{fits_few, waiting_changed}
use Rattle.dropadd_desk.proofs.Steps.{behind_keeps, waiting_here}
use Rattle.dropadd_desk.proofs.desk.HallDesk.pass_on.Goals as goal

pub overflow_cast-result : goal.overflow_cast-result
overflow_cast-result c =
    let list = ap length (c.items-lapsed.ensures ∙ ap (λ n. get_or c.args.self.now.lists.lists n []) c.from-list.ensures) in
    let few =
    queue_few (student_count (market_of c.args.self.now)) (waiting_for (state_of c.args.self.now) c.args.section.0)
    (c.args.self.now.hall.queues c.args.section.0) in
    let most : student_count (market_of c.args.self.now) ≤ 2000 = c.args.self.now.is_market.roll.few in
    omega (arith, list, few, most)

pub returns-in_default : goal.returns-in_default
returns-in_default c =
    let size = ap length c.items-lapsed.ensures in
    let list = ap length (c.items-lapsed.ensures ∙ ap (λ n. get_or c.args.self.now.lists.lists n []) c.from-list.ensures) in
    let changed =
    waiting_changed (held_on c.args.self.now.floor) c.args.self.now.lists c.take_out.new.self c.from-list.result c.args.section.0 _ [] c.take_out.ensures
    c.from-list.ensures (drop_all (length c.items-lapsed.result.now) (get_or c.args.self.now.lists.lists c.from-list.result []) (omega (arith, size))) in
    record {
      market = refl;
      outcome =
          ap (λ st. (reply.Dropped (length c.items-lapsed.result.now) None, st)) changed
          ∙ none_next_is (market_of c.args.self.now) (state_of c.args.self.now) c.args.section.0 (length c.items-lapsed.result.now) list
          (sym c.first_fitting.ensures ∙ c.in_default.is);
      room = refl;
    }

pub invariant_of-self-2 : goal.invariant_of-self-2
invariant_of-self-2 c =
    let changed =
    waiting_changed (held_on c.args.self.now.floor) c.args.self.now.lists c.take_out-2.new.self c.from-list.result c.args.section.0 _ _ c.take_out-2.ensures
    c.from-list.ensures (ap (λ n. drop (c.in-Some.place + 1) (get_or c.args.self.now.lists.lists n [])) c.from-list.ensures) in
    record {
      is_market = c.args.self.now.is_market;
      counted = c.args.self.now.counted;
      hall =
          subst (IsHall c.args.self.now.rules) (sym changed)
          (behind_keeps (market_of c.args.self.now) (state_of c.args.self.now) c.args.self.now.hall c.args.section.0 (c.in-Some.place + 1) c.requires);
      wide = ap (λ l. l.width) c.take_out-2.ensures ∙ c.args.self.now.wide;
    }

pub give-requires-clause-known : goal.give-requires-clause-known
give-requires-clause-known c =
    let list = c.items.ensures ∙ ap (λ n. get_or c.args.self.now.lists.lists n []) c.from-list.ensures in
    let is =
    place_is (fit_for (market_of c.args.self.now) (state_of c.args.self.now) c.args.section.0) (waiting_for (state_of c.args.self.now) c.args.section.0)
    c.in-Some.place (sym c.first_fitting.ensures ∙ c.in-Some.is) in
    record {
      student =
          subst (λ l. get_or l c.in-Some.place 0 < student_count (market_of c.args.self.now)) (sym list)
          ((c.args.self.now.hall.queues c.args.section.0).within _ (has_at (waiting_for (state_of c.args.self.now) c.args.section.0) c.in-Some.place 0 is.inside));
      section = c.requires;
    }

pub give-requires-clause-new : goal.give-requires-clause-new
give-requires-clause-new c =
    let list = c.items.ensures ∙ ap (λ n. get_or c.args.self.now.lists.lists n []) c.from-list.ensures in
    let is =
    place_is (fit_for (market_of c.args.self.now) (state_of c.args.self.now) c.args.section.0) (waiting_for (state_of c.args.self.now) c.args.section.0)
    c.in-Some.place (sym c.first_fitting.ensures ∙ c.in-Some.is) in
    subst (λ l. has (held_by (state_of c.args.self.now) (get_or l c.in-Some.place 0)) c.args.section.0 ≡ false) (sym list)
    (c.args.self.now.hall.apart (get_or (waiting_for (state_of c.args.self.now) c.args.section.0) c.in-Some.place 0) c.args.section.0
    (has_at (waiting_for (state_of c.args.self.now) c.args.section.0) c.in-Some.place 0 is.inside))

pub give-requires-clause-apart : goal.give-requires-clause-apart
give-requires-clause-apart c =
    let list = c.items.ensures ∙ ap (λ n. get_or c.args.self.now.lists.lists n []) c.from-list.ensures in
    let is =
    place_is (fit_for (market_of c.args.self.now) (state_of c.args.self.now) c.args.section.0) (waiting_for (state_of c.args.self.now) c.args.section.0)
    c.in-Some.place (sym c.first_fitting.ensures ∙ c.in-Some.is) in
    let changed =
    waiting_changed (held_on c.args.self.now.floor) c.args.self.now.lists c.take_out-2.new.self c.from-list.result c.args.section.0 _ _ c.take_out-2.ensures
    c.from-list.ensures (ap (λ n. drop (c.in-Some.place + 1) (get_or c.args.self.now.lists.lists n [])) c.from-list.ensures) in
    let inside = subst (λ n. c.args.section.0 < n) (sym c.args.self.now.hall.each_section) c.requires in
    ap (λ st. has (waiting_for st c.args.section.0) (get_or c.items.result.now c.in-Some.place 0)) changed
    ∙ ap (λ l. has l (get_or c.items.result.now c.in-Some.place 0))
    (waiting_here (state_of c.args.self.now) c.args.section.0 (drop (c.in-Some.place + 1) (waiting_for (state_of c.args.self.now) c.args.section.0)) inside)
    ∙ ap (λ l. has (drop (c.in-Some.place + 1) (waiting_for (state_of c.args.self.now) c.args.section.0)) (get_or l c.in-Some.place 0)) list
    ∙ none_behind (student_count (market_of c.args.self.now)) (get_or (waiting_for (state_of c.args.self.now) c.args.section.0) c.in-Some.place 0)
    c.in-Some.place (waiting_for (state_of c.args.self.now) c.args.section.0) (c.args.self.now.hall.queues c.args.section.0)
    (slice_get-get_or (waiting_for (state_of c.args.self.now) c.args.section.0) c.in-Some.place 0 is.inside)

pub give-requires-clause-few : goal.give-requires-clause-few
give-requires-clause-few c =
    let list = c.items.ensures ∙ ap (λ n. get_or c.args.self.now.lists.lists n []) c.from-list.ensures in
    let is =
    place_is (fit_for (market_of c.args.self.now) (state_of c.args.self.now) c.args.section.0) (waiting_for (state_of c.args.self.now) c.args.section.0)
    c.in-Some.place (sym c.first_fitting.ensures ∙ c.in-Some.is) in
    let next = get_or (waiting_for (state_of c.args.self.now) c.args.section.0) c.in-Some.place 0 in
    let low =
    (c.args.self.now.hall.queues c.args.section.0).within next
    (has_at (waiting_for (state_of c.args.self.now) c.args.section.0) c.in-Some.place 0 is.inside) in
    subst (λ l. length (held_by (state_of c.args.self.now) (get_or l c.in-Some.place 0)) < 8) (sym list)
    (fits_few (market_of c.args.self.now) next c.args.section.0 (held_by (state_of c.args.self.now) next) c.args.self.now.is_market low
    (found_passes (fit_for (market_of c.args.self.now) (state_of c.args.self.now) c.args.section.0) (waiting_for (state_of c.args.self.now) c.args.section.0) c.in-Some.place is))

pub overflow_cast-result-2 : goal.overflow_cast-result-2
overflow_cast-result-2 c =
    let is =
    place_is (fit_for (market_of c.args.self.now) (state_of c.args.self.now) c.args.section.0) (waiting_for (state_of c.args.self.now) c.args.section.0)
    c.in-Some.place (sym c.first_fitting.ensures ∙ c.in-Some.is) in
    let inside : c.in-Some.place < length (waiting_for (state_of c.args.self.now) c.args.section.0) = is.inside in
    let few =
    queue_few (student_count (market_of c.args.self.now)) (waiting_for (state_of c.args.self.now) c.args.section.0)
    (c.args.self.now.hall.queues c.args.section.0) in
    let most : student_count (market_of c.args.self.now) ≤ 2000 = c.args.self.now.is_market.roll.few in
    omega (arith, inside, few, most)

pub returns : goal.returns
returns c =
    let list = c.items.ensures ∙ ap (λ n. get_or c.args.self.now.lists.lists n []) c.from-list.ensures in
    let changed =
    waiting_changed (held_on c.args.self.now.floor) c.args.self.now.lists c.take_out-2.new.self c.from-list.result c.args.section.0 _ _ c.take_out-2.ensures
    c.from-list.ensures (ap (λ n. drop (c.in-Some.place + 1) (get_or c.args.self.now.lists.lists n [])) c.from-list.ensures) in
    record {
      market = c.give.ensures.market;
      outcome =
          ap (λ st. (reply.Dropped c.in-Some.place (Some (record { 0 = get_or c.items.result.now c.in-Some.place 0 })), st))
          (c.give.ensures.state ∙ ap (λ st. given st (Some (get_or c.items.result.now c.in-Some.place 0)) c.args.section.0) changed)
          ∙ next_is (market_of c.args.self.now) (state_of c.args.self.now) c.args.section.0 c.in-Some.place
          (record { 0 = get_or c.items.result.now c.in-Some.place 0 }) (sym c.first_fitting.ensures ∙ c.in-Some.is) (ap (λ l. get_or l c.in-Some.place 0) list);
      room = c.give.ensures.room;
    }
