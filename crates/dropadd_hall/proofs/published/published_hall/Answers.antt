use Rattle.std.proofs.Common.{subst, ap, arith, ◌∙◌}
use Rattle.std.specs.Prelude.{All}
use Rattle.chronicle.specs.History.{IsLegal, state_after as state_after_steps}
use Rattle.certificate_checker.proofs.Composing.{err_from}
use Rattle.certificate_checker.specs.declared.findings.CheckEnd.TheVariants as end
use Rattle.certificate_checker.specs.Findings.{OnFound}
use Rattle.dropadd_desk.specs.declared.shared.HallState.{HallState}
use Rattle.dropadd_desk.specs.HallView.{state_of}
use Rattle.dropadd_desk.specs.Lines.{HallStep}
use Rattle.dropadd_desk.specs.Market.{Market}
use Rattle.dropadd_desk.specs.Replies.{NamesInRange}
use Rattle.dropadd_desk.specs.Shared.{is_sound, reply_to, state_after}
use Rattle.dropadd_hall.specs.Openings.{IsNoOpening}
use Rattle.dropadd_hall.specs.Streams.{request_lists}
use Rattle.dropadd_hall.specs.Texts.{hall_text}
use Rattle.dropadd_hall.specs.Told.{IsToldOf}
use Rattle.dropadd_hall.proofs.published.published_hall.Goals as goal

pub open_hall-requires-clause-room : goal.open_hall-requires-clause-room
open_hall-requires-clause-room g c κs within = omega (arith, c.requires.requests, c.in_ok-desk.ensures.opened.2.room)

pub put_hall-requires-clause-market : goal.put_hall-requires-clause-market
put_hall-requires-clause-market g c = c.in_ok-hall.ensures.market ∙ c.in_ok-desk.ensures.opened.2.of

pub put_hall-requires-clause-named : goal.put_hall-requires-clause-named
put_hall-requires-clause-named g c =
    subst (λ (market : Market). All (λ (step : HallStep). NamesInRange market step.reply) c.in_ok-hall.hall.journal) c.in_ok-desk.ensures.opened.2.of
    c.in_ok-hall.ensures.named

pub returns-clause-told : goal.returns-clause-told
returns-clause-told g c =
    let market : Market = record { catalog = c.args.catalog.now; roll = c.args.roll.now } in
    let opened = c.in_ok-desk.ensures.opened in
    let start = state_of c.in_ok-desk.desk in
    let hall = c.in_ok-hall.hall in
    let said = c.in_ok-hall.ensures in
    let streams = request_lists c.args.streams.now in
    let told_of : IsToldOf market start streams hall.journal c.in_ok-told.told.items =
    record {
      legal = subst (λ m. IsLegal is_sound state_after reply_to m start hall.journal) opened.2.of said.legal;
      merges = said.merges;
      written =
          c.in_ok-told.ensures
          ∙ ap (hall_text market hall.journal) (said.state ∙ ap (λ (m : Market). state_after_steps state_after m start hall.journal) opened.2.of);
    } in
    record {
      publication = opened.0;
      opens = record { is_text = opened.1; faultless = opened.2.faultless };
      history = hall.journal;
      told_of = subst (λ (state : HallState). IsToldOf market state streams hall.journal c.in_ok-told.told.items) opened.2.state told_of;
    }

pub returns-in_err-told-clause-refused : goal.returns-in_err-told-clause-refused
returns-in_err-told-clause-refused g c =
    let market : Market = record { catalog = c.args.catalog.now; roll = c.args.roll.now } in
    err_from c.from_residual-in_err-told.result end.NoMemory (λ end. OnFound end (IsNoOpening market c.args.text.now)) c.from_residual-in_err-told.ensures.1 tt
