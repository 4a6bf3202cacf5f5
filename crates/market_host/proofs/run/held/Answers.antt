use Rattle.published_parts.specs.Markets.{market_of}
use Rattle.session_hall.specs.Streams.{command_lists}
use Rattle.market_host.proofs.RunFacts.{run_done, run_unpriced}
use Rattle.market_host.proofs.run.held.Goals as goal

pub returns-in-Ok : goal.returns-in-Ok
returns-in-Ok g c =
    let market = c.args.market.now in
    run_done (market_of market.catalog market.roll market.settings) (command_lists c.args.streams.now.lists.items) c.args.workers.number c.in-Ok.text.items (rw c.deref.ensures.value at c.in-Ok.ensures.text)

pub returns-in_ok-unpriced_text-in-Err-NoPrices : goal.returns-in_ok-unpriced_text-in-Err-NoPrices
returns-in_ok-unpriced_text-in-Err-NoPrices g c =
    let market = c.args.market.now in
    run_unpriced (market_of market.catalog market.roll market.settings) (command_lists c.args.streams.now.lists.items) c.args.workers.number c.in-Err-NoPrices.least
    c.in-Err-NoPrices.order.items _ (rw c.deref.ensures.value at (c.in-Err-NoPrices.ensures.no_prices c.in-Err-NoPrices.order c.in-Err-NoPrices.least (cc)))
    c.in_ok-unpriced_text-in-Err-NoPrices.ensures
