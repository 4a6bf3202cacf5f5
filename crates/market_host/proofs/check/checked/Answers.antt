use Rattle.published_parts.specs.Markets.{market_of}
use Rattle.session_hall.specs.Streams.{command_lists}
use Rattle.market_host.proofs.CheckFacts.{check_done, check_found}
use Rattle.market_host.proofs.check.checked.Goals as goal

pub returns-in-Ok : goal.returns-in-Ok
returns-in-Ok c =
    let market = c.args.published.market in
    check_done (market_of market.catalog market.roll market.settings) (command_lists c.args.published.streams.lists.items) c.args.published.text.items
    c.accepted.result (rw c.deref.ensures.value at c.in-Ok.ensures.accepted) c.accepted.ensures

pub returns-in-Err-Found : goal.returns-in-Err-Found
returns-in-Err-Found c =
    let market = c.args.published.market in
    check_found (market_of market.catalog market.roll market.settings) (command_lists c.args.published.streams.lists.items) c.args.published.text.items
    c.in-Err-Found.finding c.finding_line.result (rw (c.in-Err-Found.field-0-is, c.deref.ensures.value) at c.in-Err-Found.ensures.refused).refused
    (rw (c.in-Err-Found.field-0-is, c.deref.ensures.value) at c.in-Err-Found.ensures.refused).first c.finding_line.ensures
