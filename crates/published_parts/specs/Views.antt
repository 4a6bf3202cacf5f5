-- What a market is seen as.
use Rattle.published_parts.specs.declared.market.Market as declared
use Rattle.published_parts.specs.Markets.{Market, market_of}

-- a market as plain data
abbrev pub market_in : declared.Market → Market
market_in market = market_of market.catalog.now market.roll.now market.settings.now
