use Rattle.std.proofs.Common.{ℕ, ◌≡◌, List, map, subst}
use Rattle.demand_api.specs.Crowds.{CrowdData}
use Rattle.market_certificate.specs.Views.{publication_of}
use Rattle.preference_desk.specs.declared.entry.Entry.{Entry}
use Rattle.proof_tree.proofs.Following.{err_from}
use Rattle.published_parts.specs.Crowds.{IsCrowdAfter, IsCrowdIn}
use Rattle.published_parts.specs.Journals.{IsJournalOf}
use Rattle.published_parts.specs.Markets.{Market, names_in}
use Rattle.published_parts.specs.Views.{market_in}
use Rattle.utility_language.specs.declared.commands.Command.{Command}
use Rattle.certificate_checker.specs.Certificates.{HoldsOf}
use Rattle.certificate_checker.specs.Findings.{IsFirstIn, IsFirstOf, OnFound}
use Rattle.certificate_checker.specs.Orders.{IsOrderFinding}
use Rattle.certificate_checker.specs.Views.{terms_of}
use Rattle.certificate_checker.proofs.Composing.{can_check, on_found, order_first, printed_first}
use Rattle.certificate_checker.proofs.checking.accept_publication.Goals as goal

-- the crowd at the desk of an order is the one after it
after_desk : (market : Market) (streams : List (List Command)) (copy order : List ℕ) (journal : List Entry) (crowd : CrowdData) → copy ≡ order
    → IsJournalOf (names_in market) streams copy journal → IsCrowdIn market journal crowd → IsCrowdAfter market streams order crowd
after_desk market streams copy order journal crowd same is_journal is_crowd =
    subst (λ (entries : List ℕ). IsCrowdAfter market streams entries crowd) same
    (record { journal = journal; is_journal = is_journal; is_crowd = is_crowd })

pub invariant_of-printed : goal.invariant_of-printed
invariant_of-printed c =
    let after = after_desk (market_in c.args.market.now) _ _ _ _ _ c.deref.ensures.value c.in_ok-desk.ensures.journal c.in_ok-terms.ensures.crowd in
    record {
      can = can_check (market_in c.args.market.now) _ c.in_ok-terms.terms (publication_of c.args.publication)
          c.requires.publication after c.in_ok-terms.ensures.terms c.args.market.now.raise;
      few = c.requires.turns;
    }

pub returns-in_err-desk-clause-first : goal.returns-in_err-desk-clause-first
returns-in_err-desk-clause-first c =
    let fails =
    subst (λ order. OnFound c.in_err-desk.field-0.0 (IsOrderFinding (map (λ stream. stream.items) c.args.streams.now) order)) c.deref.ensures.value
    c.in_err-desk.ensures.fails in
    let first : OnFound c.in_err-desk.field-0.0
    (IsFirstOf (market_in c.args.market.now) (map (λ stream. stream.items) c.args.streams.now)
    (publication_of c.args.publication)) =
    on_found _ _ c.in_err-desk.field-0.0 (order_first (market_in c.args.market.now) _ (publication_of c.args.publication))
    fails in
    err_from c.from_residual.result c.in_err-desk.field-0.0 _ c.from_residual.ensures.1 first

pub returns-in-Ok-clause-holds : goal.returns-in-Ok-clause-holds
returns-in-Ok-clause-holds c =
    let p = publication_of c.args.publication in
    let after = after_desk (market_in c.args.market.now) _ _ _ _ _ c.deref.ensures.value c.in_ok-desk.ensures.journal c.in_ok-terms.ensures.crowd in
    record {
      is_crowd = after;
      printed = subst (λ t. HoldsOf t p) c.in_ok-terms.ensures.terms c.in-Ok.ensures.holds;
    }

pub returns-in-Err-clause-first : goal.returns-in-Err-clause-first
returns-in-Err-clause-first c =
    let p = publication_of c.args.publication in
    let market = market_in c.args.market.now in
    let after = after_desk (market_in c.args.market.now) _ _ _ _ _ c.deref.ensures.value c.in_ok-desk.ensures.journal c.in_ok-terms.ensures.crowd in
    on_found _ _ c.in-Err.end
    (λ finding is. printed_first market _ p (terms_of c.in_ok-terms.terms).crowd finding after
    (subst (λ t. IsFirstIn t p finding) c.in_ok-terms.ensures.terms is))
    c.in-Err.ensures.first
