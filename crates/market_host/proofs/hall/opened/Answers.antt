use Rattle.std.proofs.Common.{refl}
use Rattle.std.proofs.lemmas.Result.{IfOk-weaker}
use Rattle.certificate_checker.proofs.Composing.{err_found}
use Rattle.dropadd_desk.specs.Market.{Market}
use Rattle.dropadd_hall.specs.Openings.{CanOpen, IsOpeningFinding, tables_in}
use Rattle.dropadd_hall.specs.Streams.{request_lists}
use Rattle.market_host.specs.Works.{HallEndsFor}
use Rattle.market_host.proofs.HallFacts.{hall_done, hall_found}
use Rattle.market_host.proofs.ToldEnds.{told_ends}
use Rattle.market_host.proofs.hall.opened.Goals as goal

pub told_end-requires : goal.told_end-requires
told_end-requires g c = err_found c.published_hall-told.result (λ finding no. no.named) c.published_hall-told.ensures.refused

pub returns : goal.returns
returns g c =
    let offered = c.args.tables.now.catalog in
    let enrolled = c.args.tables.now.roll in
    let market : Market = record { catalog = offered; roll = enrolled } in
    let text = c.args.text.now in
    let streams = request_lists c.args.streams.now.lists.items in
    let told = c.published_hall-told.result in
    let is = c.published_hall-told.ensures in
    IfOk-weaker c.told_end.result _ _
    (λ ended. told_ends (tables_in market) told ended (HallEndsFor offered enrolled text streams) (λ _. ¬ CanOpen market text) (IsOpeningFinding market text)
    (IfOk-weaker told _ _ (λ made. hall_done offered enrolled text streams made.items) (rw c.deref.ensures.value at is.told))
    (err_found told (λ finding no. no.refused) is.refused) (err_found told (λ finding no. no.first) is.refused)
    (λ finding refused first. hall_found offered enrolled text streams finding _ refused first refl))
    c.told_end.ensures
