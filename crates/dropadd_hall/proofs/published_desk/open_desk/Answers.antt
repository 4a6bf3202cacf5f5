use Rattle.std.proofs.Common.{◌∙◌, List, ap, length, map, subst, sym}
use Rattle.std.proofs.lemmas.List.{length-map}
use Rattle.bundle_rules.specs.Bundles.{sections_of}
use Rattle.bundle_rules.specs.declared.bundle.Bundle.{Bundle}
use Rattle.certificate_checker.specs.Findings.{OnFound, end_of}
use Rattle.certificate_checker.proofs.Composing.{err_found, err_from, ok_then}
use Rattle.dropadd_desk.specs.Halls.{opening}
use Rattle.dropadd_desk.specs.Market.{Market}
use Rattle.held_seats.specs.Floors.{AreBelow}
use Rattle.market_certificate.specs.Views.{publication_of}
use Rattle.dropadd_hall.specs.Desks.{IsOpenDesk}
use Rattle.dropadd_hall.specs.Openings.{IsNoOpening, IsTextOf, TellsFault}
use Rattle.dropadd_hall.proofs.Finals.{each_final, finals_below}
use Rattle.dropadd_hall.proofs.Findings.{defect_no_opening, fault_no_opening}
use Rattle.dropadd_hall.proofs.published_desk.open_desk.Goals as goal

pub open_with-requires-clause-each : goal.open_with-requires-clause-each
open_with-requires-clause-each c =
    let market : Market = record { catalog = c.args.catalog.now; roll = c.args.roll.now } in
    ap length c.deref.ensures.value ∙ sym (length-map c.in_ok-publication.publication.allocation.items sections_of)
    ∙ each_final market (publication_of c.in_ok-publication.publication) c.in_ok-publication.ensures.publication

pub open_with-requires-clause-within : goal.open_with-requires-clause-within
open_with-requires-clause-within c =
    let market : Market = record { catalog = c.args.catalog.now; roll = c.args.roll.now } in
    subst (λ (bundles : List Bundle). AreBelow (length c.args.catalog.now.sections) (map sections_of bundles)) (sym c.deref.ensures.value)
    (finals_below market (publication_of c.in_ok-publication.publication) c.in_ok-publication.ensures.publication)

pub returns-clause-opened : goal.returns-clause-opened
returns-clause-opened c =
    let market : Market = record { catalog = c.args.catalog.now; roll = c.args.roll.now } in
    ok_then c.open_with.result (λ desk is. (
      publication_of c.in_ok-publication.publication,
      record { is_publication = c.in_ok-publication.ensures.publication; written = c.in_ok-publication.ensures.text },
      subst (λ (bundles : List Bundle). IsOpenDesk market (map sections_of bundles) desk) c.deref.ensures.value is,
    )) c.open_with.ensures.opened

pub returns-clause-refused : goal.returns-clause-refused
returns-clause-refused c =
    let market : Market = record { catalog = c.args.catalog.now; roll = c.args.roll.now } in
    let p = publication_of c.in_ok-publication.publication in
    let text : IsTextOf market p c.args.text.now = record { is_publication = c.in_ok-publication.ensures.publication; written = c.in_ok-publication.ensures.text } in
    err_found c.open_with.result
    (λ finding is. fault_no_opening market c.args.text.now p finding c.len-few_sections.ensures.kept c.len-few_students.ensures.roll text
    (subst (λ (bundles : List Bundle). TellsFault market (opening market (map sections_of bundles)) finding) c.deref.ensures.value is)) c.open_with.ensures.fault

pub returns-in_err-publication-clause-refused : goal.returns-in_err-publication-clause-refused
returns-in_err-publication-clause-refused c =
    let market : Market = record { catalog = c.args.catalog.now; roll = c.args.roll.now } in
    let refusal = c.in_err-publication.field-0.0 in
    let refused : OnFound (end_of refusal) (IsNoOpening market c.args.text.now) =
    defect_no_opening market c.args.text.now refusal c.in_err-publication.ensures.defect c.in_err-publication.ensures.refused in
    err_from c.from_residual.result (end_of refusal) _ c.from_residual.ensures.1 refused
