-- What a market whose students were heard is seen as.
use Rattle.std.specs.Prelude.{List}
use Rattle.market_run.specs.declared.market_desk.MarketDesk.{MarketDesk}
use Rattle.preference_desk.specs.declared.entry.Entry.{Entry}
use Rattle.preference_desk.specs.DeskView.{entries_of}
use Rattle.published_parts.specs.Markets.{Market}
use Rattle.published_parts.specs.Views.{market_in}

-- the market
abbrev pub market_heard : MarketDesk → Market
market_heard heard = market_in heard.market

-- what was said, and replied
abbrev pub journal_heard : MarketDesk → List Entry
journal_heard heard = entries_of heard.desk.now
