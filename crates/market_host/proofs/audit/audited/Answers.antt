use Rattle.std.proofs.Common.{[], ◌∷◌, refl}
use Rattle.std.proofs.lemmas.Result.{IfOk-weaker}
use Rattle.certificate_checker.specs.Refusals.{IsRefused}
use Rattle.certificate_checker.proofs.Composing.{err_found}
use Rattle.market_words.specs.declared.words.Form.TheVariants.{Audit}
use Rattle.published_parts.specs.Markets.{market_of, tables_in}
use Rattle.session_hall.specs.Streams.{command_lists}
use Rattle.market_host.specs.Works.{EndsFor}
use Rattle.market_host.proofs.AuditFacts.{audit_done, audit_found}
use Rattle.market_host.proofs.ToldEnds.{told_ends}
use Rattle.market_host.proofs.audit.audited.Goals as goal

pub told_end-requires : goal.told_end-requires
told_end-requires g c = err_found c.published_audit-told.result (λ finding is. is.named) c.published_audit-told.ensures.refused

pub returns : goal.returns
returns g c =
    let said = c.args.published.market in
    let market = market_of said.catalog said.roll said.settings in
    let streams = command_lists c.args.published.streams.lists.items in
    let text = c.args.published.text.items in
    let told = c.published_audit-told.result in
    let is = c.published_audit-told.ensures in
    IfOk-weaker c.told_end.result _ _
    (λ ended. told_ends (tables_in market) told ended (EndsFor (Audit c.args.workers.number) market (text ∷ []) streams)
    (IsRefused market streams text) (IsRefused market streams text)
    (IfOk-weaker told _ _ (λ audited. audit_done market streams text c.args.workers.number audited.items) (rw c.deref.ensures.value at is.audited))
    (rw c.deref.ensures.value at is.refused) (rw c.deref.ensures.value at is.refused)
    (λ finding refused too. audit_found market streams text c.args.workers.number finding _ refused.refused refused.first refl))
    c.told_end.ensures
