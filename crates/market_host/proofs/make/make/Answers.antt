use Rattle.market_host.proofs.make.make.Goals as goal

pub returns-in-Ok : goal.returns-in-Ok
returns-in-Ok g c = c.in-Ok.ensures.text

pub returns-in-Err-NoPrices : goal.returns-in-Err-NoPrices
returns-in-Err-NoPrices g c = (c.in-Err-NoPrices.ensures.no_prices c.in-Err-NoPrices.least (cc), c.no_prices.ensures)
