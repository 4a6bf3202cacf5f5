use Rattle.std.proofs.Common.{ℕ, ◌≡◌, ◌+◌, ◌∙◌, List, rules, length, get_or, map, refl, ap, sym, subst, inl, inr, arith, ◌∷◌, [], ◌++◌, take, drop}
use Rattle.demand_api.proofs.Takers.{lent_back}
use Rattle.preference_desk.specs.declared.entry.Entry.{Entry}
use Rattle.preference_desk.specs.DeskView.{entries_of}
use Rattle.preference_desk.specs.Entries.{entry_of}
use Rattle.preference_desk.specs.Journals.{IsLegalJournal}
use Rattle.certificate_checker.specs.Findings.{OnFound}
use Rattle.certificate_checker.specs.Orders.{HasNext, IsNextCommand, IsOrderFinding, SaidAll}
use Rattle.certificate_checker.proofs.Reading.{denied, moved}
use Rattle.certificate_checker.proofs.Replaying.{HasReplayed, replayed_all, replayed_fails, replayed_left, replayed_more}
use Rattle.certificate_checker.proofs.orders.replay.Goals as goal

pub returns-in-None-clause-fails : goal.returns-in-None-clause-fails
returns-in-None-clause-fails c =
    let none =
    subst (λ counts. ¬ HasNext (map (λ stream. stream.items) c.args.streams.now) counts (get_or c.args.order.now c.entries.place 0)) c.deref_mut.ensures.value
    c.in-None.ensures.none in
    subst (λ end. OnFound end (IsOrderFinding (map (λ stream. stream.items) c.args.streams.now) c.args.order.now)) (sym c.failed_at.ensures)
    (inl (
      c.entries.place,
      refl,
      replayed_fails _ c.args.order.now c.entries.place (entries_of c.entries.desk) c.entries.said.items c.entries.invariant.replayed c.entries-test.true
          none,
    ))

pub entries-preserved : goal.entries-preserved
entries-preserved c =
    let order = c.args.order.now in
    let place = c.entries.place in
    let session = get_or order place 0 in
    let counts = c.entries.said.items in
    let next =
    subst (λ (before : List ℕ). IsNextCommand (map (λ stream. stream.items) c.args.streams.now) before session c.next_command.new.said c.in-Some.command)
    c.deref_mut.ensures.value c.in-Some.ensures.some in
    let entries : entries_of c.post.new.self ≡ entries_of c.entries.desk ++ entry_of session c.in-Some.command c.post.result ∷ [] =
    c.post.ensures.entries ∙ ap (λ s. entries_of c.entries.desk ++ entry_of s c.in-Some.command c.post.result ∷ []) c.from.ensures in
    let back : take c.entries.said.len (c.next_command.new.said ++ drop (length c.next_command.new.said) counts) ≡ c.next_command.new.said =
    lent_back c.entries.said.len c.next_command.new.said counts (search rules) in
    let made =
    replayed_more _ order place session (entries_of c.entries.desk) counts c.next_command.new.said c.in-Some.command c.post.result
    c.entries.invariant.replayed c.entries-test.true refl next in
    record {
      names = c.post.ensures.names ∙ c.entries.invariant.names;
      room = (let had = c.entries.invariant.room in let has = c.post.ensures.room in omega arith);
      replayed =
          moved (λ (all : List Entry) (said : List ℕ). HasReplayed (map (λ stream. stream.items) c.args.streams.now) order (place + 1) all said) _ _ _ _
          (sym entries) (sym back) made;
    }

pub returns-then-not-said_all-clause-fails : goal.returns-then-not-said_all-clause-fails
returns-then-not-said_all-clause-fails c =
    let order = c.args.order.now in
    let at : c.entries.place ≡ length order = omega arith in
    let replayed =
    subst (λ n. HasReplayed (map (λ stream. stream.items) c.args.streams.now) order n (entries_of c.entries.desk) c.entries.said.items) at
    c.entries.invariant.replayed in
    let left =
    subst (λ (said : List ℕ). ¬ SaidAll (map (λ stream. stream.items) c.args.streams.now) said) c.deref.ensures.value
    (denied c.said_all.result c.said_all.ensures c.if-not-said_all.true) in
    subst (λ end. OnFound end (IsOrderFinding (map (λ stream. stream.items) c.args.streams.now) order)) (sym c.failed_at-then-not-said_all.ensures)
    (inr (refl, replayed.before, replayed_left _ order (entries_of c.entries.desk) c.entries.said.items replayed left))

pub returns-clause-journal : goal.returns-clause-journal
returns-clause-journal c =
    let order = c.args.order.now in
    let at : c.entries.place ≡ length order = omega arith in
    let replayed =
    subst (λ n. HasReplayed (map (λ stream. stream.items) c.args.streams.now) order n (entries_of c.entries.desk) c.entries.said.items) at
    c.entries.invariant.replayed in
    let said = subst (SaidAll (map (λ stream. stream.items) c.args.streams.now)) c.deref.ensures.value (c.said_all.ensures.0 c.if-not-said_all.false) in
    let all = replayed_all _ order (entries_of c.entries.desk) c.entries.said.items replayed said in
    record {
      sessions = all.0;
      legal = moved IsLegalJournal _ _ _ _ c.entries.invariant.names c.journal-entries.ensures.entries c.journal-entries.ensures.legal;
      merges = all.1;
    }
