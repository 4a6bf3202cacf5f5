use Rattle.std.proofs.Common.{◌≡◌, ◌<◌, [], ◌∷◌, length, eqb, arith, ap, sym, ◌∙◌, tests, rules, refl, Some, None}
use Rattle.std.proofs.lemmas.List.{map-append, length-take, length-map}
use Rattle.std.proofs.lemmas.Iterator.Splits.{YieldsList-from_slice_split}
use Rattle.plain_facts.proofs.Lists.{item_of_turn}
use Rattle.timetable_rules.proofs.Guesses.{read_is_spelled}
use Rattle.timetable_rules.proofs.Pieces.{all_at_end, meeting_of_piece, few_pieces, spelled_by_pieces}
use Rattle.timetable_rules.specs.Meetings.{meetings_of}
use Rattle.timetable_rules.specs.Spelling.{spelling}
use Rattle.timetable_rules.proofs.reading.read_meetings.Goals as goal

pub returns-then-as_slice-eq-MAX_MEETINGS-clause-none :
    goal.returns-then-as_slice-eq-MAX_MEETINGS-clause-none
returns-then-as_slice-eq-MAX_MEETINGS-clause-none c = λ meetings spells.
    let t = item_of_turn c.loop-piece.yielded _ c.loop-piece.yielded_by _ _ _ c.in-Some.is c.next.ensures.steps
    (YieldsList-from_slice_split _ (λ b. eqb b 59) c.args.bytes.now (cc) (cc) (cc) (λ x b q k. search (rules, tests))) in
    let some : 0 < length c.args.bytes.now = search rules in
    let read : length c.loop-piece.yielded ≡ length (meetings_of c.loop-piece.meetings) =
    sym (length-map c.loop-piece.yielded (λ x. x.now)) ∙ ap length c.loop-piece.invariant.2 ∙ length-map (meetings_of c.loop-piece.meetings) spelling in
    let ten : length (meetings_of c.loop-piece.meetings) ≡ 10 = ap length (sym c.as_slice.ensures.value) ∙ search rules in
    omega (arith, t.0, few_pieces c.args.bytes.now meetings spells some, read, ten)

pub returns-in_err-read_meeting-clause-none : goal.returns-in_err-read_meeting-clause-none
returns-in_err-read_meeting-clause-none c = rw c.from_residual.ensures (λ meetings spells.
    let t = item_of_turn c.loop-piece.yielded _ c.loop-piece.yielded_by _ _ _ c.in-Some.is c.next.ensures.steps
    (YieldsList-from_slice_split _ (λ b. eqb b 59) c.args.bytes.now (cc) (cc) (cc) (λ x b q k. search (rules, tests))) in
    let some : 0 < length c.args.bytes.now = search rules in
    let (meeting, is, here) = meeting_of_piece c.args.bytes.now meetings (length c.loop-piece.yielded) c.in-Some.piece.now spells some t.0 in
    c.in_err-read_meeting.ensures.none meeting is (t.1 ∙ here))

pub returns-clause-read : goal.returns-clause-read
returns-clause-read c =
    let t = all_at_end c.loop-piece.yielded _ c.loop-piece.yielded_by _ _ c.in-None.is c.next.ensures.steps
    (YieldsList-from_slice_split _ (λ b. eqb b 59) c.args.bytes.now (cc) (cc) (cc) (λ x b q k. search (rules, tests))) in
    let m = c.loop-piece.meetings in
    spelled_by_pieces c.args.bytes.now (meetings_of m) (omega (arith, m.few, length-take m.len m.places)) m.each (sym c.loop-piece.invariant.2 ∙ t.0)

pub loop-piece-preserved : goal.loop-piece-preserved
loop-piece-preserved c =
    let h = c.in_ok-read_meeting.ensures.read in
    let old = c.loop-piece.invariant.2 in (
      search rules,
      tt,
      map-append (λ x. x.now) c.loop-piece.yielded (c.in-Some.piece ∷ [])
          ∙ rw (c.with-meetings.ensures, map-append spelling (meetings_of c.loop-piece.meetings) (c.in_ok-read_meeting.field-0 ∷ []), old, h.1) refl,
    )

pub returns-then-as_slice-eq-MAX_MEETINGS-clause-value :
    goal.returns-then-as_slice-eq-MAX_MEETINGS-clause-value
returns-then-as_slice-eq-MAX_MEETINGS-clause-value c =
    read_is_spelled c.args.bytes.now None tt (returns-then-as_slice-eq-MAX_MEETINGS-clause-none c)

pub returns-in_err-read_meeting-clause-value : goal.returns-in_err-read_meeting-clause-value
returns-in_err-read_meeting-clause-value c =
    read_is_spelled c.args.bytes.now c.from_residual.result (rw c.from_residual.ensures tt) (returns-in_err-read_meeting-clause-none c)

pub returns-clause-value : goal.returns-clause-value
returns-clause-value c = read_is_spelled c.args.bytes.now (Some c.loop-piece.meetings) (returns-clause-read c) tt
