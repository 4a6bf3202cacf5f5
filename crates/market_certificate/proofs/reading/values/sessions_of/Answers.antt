use Rattle.std.proofs.Common.{length, eqb, ap, sym, ◌∙◌, rules, tests}
use Rattle.std.specs.List.{join_with_byte}
use Rattle.std.proofs.lemmas.List.Splits.{join_with_byte-slice_split}
use Rattle.std.proofs.lemmas.Iterator.Splits.{YieldsList-from_slice_split}
use Rattle.plain_facts.proofs.Lists.{item_of_turn}
use Rattle.market_certificate.proofs.Bundles.{all_parts}
use Rattle.market_certificate.proofs.Unformed.{session_at}
use Rattle.market_certificate.proofs.reading.values.sessions_of.Goals as goal

pub returns-in_default-clause-none : goal.returns-in_default-clause-none
returns-in_default-clause-none c = λ order some each e.
    let t =
    item_of_turn c.words.yielded _ c.words.yielded_by _ _ _ c.in-Some.is c.next.ensures.steps
    (YieldsList-from_slice_split _ (λ b. eqb b 32) c.args.bytes.now (cc) (cc) (cc) (λ x b q k. search (rules, tests))) in
    let (session, is, here) = session_at order c.args.bytes.now c.in-Some.word.now (length c.words.yielded) some each e t.0 t.1 in
    c.in_default.ensures.none session is here

pub returns-clause-spelled : goal.returns-clause-spelled
returns-clause-spelled c =
    let t =
    all_parts c.words.yielded _ c.words.yielded_by _ _ c.in-None.is c.next.ensures.steps
    (YieldsList-from_slice_split _ (λ b. eqb b 32) c.args.bytes.now (cc) (cc) (cc) (λ x b q k. search (rules, tests))) in
    sym (ap (join_with_byte 32) (sym c.words.invariant.2 ∙ t) ∙ join_with_byte-slice_split 32 c.args.bytes.now)
