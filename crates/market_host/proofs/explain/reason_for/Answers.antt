use Rattle.std.proofs.Common.{inl, inr, refl}
use Rattle.std.proofs.lemmas.Result.{IfOk-weaker}
use Rattle.certificate_checker.specs.Refusals.{IsRefused}
use Rattle.certificate_checker.proofs.Composing.{err_found}
use Rattle.course_catalog.specs.Sections.{section_names}
use Rattle.market_units.specs.Name.{name_bytes}
use Rattle.published_parts.specs.Markets.{market_of, tables_in}
use Rattle.session_hall.specs.Streams.{command_lists}
use Rattle.student_roll.specs.Students.{names_of}
use Rattle.market_host.specs.Endings.{bytes_of}
use Rattle.market_host.specs.Explains.{IsReasonEnd}
use Rattle.market_host.proofs.ToldEnds.{told_ends}
use Rattle.market_host.proofs.ExplainFacts.{found_at, not_among, reason_of, unknown_end}
use Rattle.market_host.proofs.explain.reason_for.Goals as goal

pub returns-in_default : goal.returns-in_default
returns-in_default c =
    let market = c.args.published.market in
    unknown_end (market_of market.catalog market.roll market.settings) (command_lists c.args.published.streams.lists.items) c.args.published.text.items
    (name_bytes c.args.student.now) (name_bytes c.args.section.now) 6
    c.unknown.result.status (bytes_of c.unknown.result.output) c.unknown.ensures.status c.unknown.ensures.line
    (inl (refl, not_among (λ s. s.0) c.find.result (name_bytes c.args.student.now) (names_of market.roll.students) c.find.ensures.place c.in_default.is))

pub returns-in_default-find : goal.returns-in_default-find
returns-in_default-find c =
    let market = c.args.published.market in
    let enrolled =
    found_at (λ s. s.0) c.find.result c.in-Some.enrolled (name_bytes c.args.student.now) (names_of market.roll.students) c.find.ensures.place c.in-Some.is in
    unknown_end (market_of market.catalog market.roll market.settings) (command_lists c.args.published.streams.lists.items) c.args.published.text.items
    (name_bytes c.args.student.now) (name_bytes c.args.section.now) 7
    c.unknown-in_default-find.result.status (bytes_of c.unknown-in_default-find.result.output) c.unknown-in_default-find.ensures.status
    c.unknown-in_default-find.ensures.line
    (inr (
      refl,
      (c.in-Some.enrolled.0, enrolled),
      not_among (λ s. s.0) c.find-2.result (name_bytes c.args.section.now) (section_names market.catalog.sections) c.find-2.ensures.place
          c.in_default-find.is,
    ))

pub told_end-requires : goal.told_end-requires
told_end-requires c = err_found c.published_reason-told.result (λ finding is. is.named) c.published_reason-told.ensures.refused

pub returns : goal.returns
returns c =
    let said = c.args.published.market in
    let market = market_of said.catalog said.roll said.settings in
    let streams = command_lists c.args.published.streams.lists.items in
    let text = c.args.published.text.items in
    let student = name_bytes c.args.student.now in
    let section = name_bytes c.args.section.now in
    let told = c.published_reason-told.result in
    let is = c.published_reason-told.ensures in
    let enrolled =
    found_at (λ s. s.0) c.find.result c.in-Some.enrolled (name_bytes c.args.student.now) (names_of said.roll.students) c.find.ensures.place c.in-Some.is in
    let listed =
    found_at (λ s. s.0) c.find-2.result c.in-Some-find.listed (name_bytes c.args.section.now) (section_names said.catalog.sections) c.find-2.ensures.place
    c.in-Some-find.is in
    IfOk-weaker c.told_end.result _ _
    (λ ended. told_ends (tables_in market) told ended (IsReasonEnd market streams text student section) (IsRefused market streams text)
    (IsRefused market streams text)
    (IfOk-weaker told _ _ (λ made. reason_of market streams text student section made.items c.in-Some.enrolled.0 c.in-Some-find.listed.0 enrolled listed
    c.in-Some-find.ensures.found) (rw c.deref.ensures.value at is.told))
    (rw c.deref.ensures.value at is.refused) (rw c.deref.ensures.value at is.refused)
    (λ finding refused too. record {
      enrolled = (c.in-Some.enrolled.0, enrolled);
      listed = (c.in-Some-find.listed.0, listed);
      refused = refused.refused;
      first = refused.first;
      told = refl;
    }))
    c.told_end.ensures
