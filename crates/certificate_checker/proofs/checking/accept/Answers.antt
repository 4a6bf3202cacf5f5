use Rattle.std.proofs.Common.{ℕ, ◌≡◌, ◌≤◌, ◌∙◌, List, length, map, subst, sym, arith}
use Rattle.std.proofs.lemmas.List.{length-map}
use Rattle.market_certificate.specs.Views.{publication_of, turn_of}
use Rattle.proof_tree.proofs.Following.{err_from}
use Rattle.published_parts.specs.Markets.{tables_in}
use Rattle.published_parts.specs.Views.{market_in}
use Rattle.certificate_checker.specs.Certificates.{HoldsBy, IsTextOf}
use Rattle.demand_api.specs.Views.{data_of}
use Rattle.certificate_checker.specs.Findings.{OnFound, end_of}
use Rattle.certificate_checker.specs.Refusals.{IsRefused}
use Rattle.certificate_checker.proofs.Composing.{err_found, ok_both, ok_then, text_first}
use Rattle.certificate_checker.proofs.Ranges.{order_in_text, turns_in_text}
use Rattle.certificate_checker.proofs.Refusals.{defect_refuses, first_refuses}
use Rattle.certificate_checker.proofs.checking.accept.Goals as goal

-- what is read of a copy is read of the text
written : {copy text other : List ℕ} → copy ≡ text → copy ≡ other → text ≡ other
written same is = sym same ∙ is

pub accept_publication-requires-clause-entries : goal.accept_publication-requires-clause-entries
accept_publication-requires-clause-entries c =
    let short : length c.in_ok-publication.publication.order.items ≤ length c.args.text.items =
    order_in_text (tables_in (market_in c.args.market.now)) (publication_of c.in_ok-publication.publication) c.args.text.items (written c.deref.ensures.value c.in_ok-publication.ensures.text) in
    let small = c.requires in
    omega arith

pub accept_publication-requires-clause-turns : goal.accept_publication-requires-clause-turns
accept_publication-requires-clause-turns c =
    let short = turns_in_text (tables_in (market_in c.args.market.now)) (publication_of c.in_ok-publication.publication) c.args.text.items (written c.deref.ensures.value c.in_ok-publication.ensures.text) in
    let long = length-map c.in_ok-publication.publication.turns.items turn_of in
    let small = c.requires in
    omega arith

pub returns-clause-text : goal.returns-clause-text
returns-clause-text c =
    ok_then c.accept_publication.result
    (λ accepted same. subst (λ p. IsTextOf (market_in c.args.market.now) p c.args.text.items) (sym same)
    (record { is_publication = c.in_ok-publication.ensures.publication; written = written c.deref.ensures.value c.in_ok-publication.ensures.text }))
    c.accept_publication.ensures.same

pub returns-clause-holds : goal.returns-clause-holds
returns-clause-holds c =
    ok_both c.accept_publication.result
    (λ accepted same holds. subst
    (λ p. HoldsBy (market_in c.args.market.now) (map (λ stream. stream.items) c.args.streams.now) p (data_of accepted.crowd))
    (sym same) holds)
    c.accept_publication.ensures.same c.accept_publication.ensures.holds

pub returns-clause-refused : goal.returns-clause-refused
returns-clause-refused c =
    err_found c.accept_publication.result (λ finding is. first_refuses (market_in c.args.market.now) _ c.args.text.items finding c.len-few_sections.ensures.kept c.len-few_students.ensures.roll
    (text_first (market_in c.args.market.now) _ (publication_of c.in_ok-publication.publication) c.args.text.items finding
    (record { is_publication = c.in_ok-publication.ensures.publication; written = written c.deref.ensures.value c.in_ok-publication.ensures.text }) is)) c.accept_publication.ensures.first

pub returns-in_err-publication-clause-refused : goal.returns-in_err-publication-clause-refused
returns-in_err-publication-clause-refused c =
    let refusal = c.in_err-publication.field-0.0 in
    let streams = map (λ stream. stream.items) c.args.streams.now in
    let refused : OnFound (end_of refusal) (IsRefused (market_in c.args.market.now) streams c.args.text.items) =
    subst (λ text. OnFound (end_of refusal) (IsRefused (market_in c.args.market.now) streams text)) c.deref.ensures.value
    (defect_refuses (market_in c.args.market.now) _ c.deref.result.now refusal c.in_err-publication.ensures.defect c.in_err-publication.ensures.refused) in
    err_from c.from_residual.result (end_of refusal) _ c.from_residual.ensures.1 refused
