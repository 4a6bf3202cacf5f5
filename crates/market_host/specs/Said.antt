-- The market that the first inputs of a call say.
use Rattle.market_host.specs.declared.said.Market.{Market as Said}
use Rattle.published_parts.specs.Markets.{Market, market_of}

-- the catalogue, the roll and the settings, as one market
abbrev pub market_said : Said → Market
market_said said = market_of said.catalog said.roll said.settings
