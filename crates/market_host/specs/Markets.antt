-- The market that the inputs of a call are, and a market that was held: its desk's journal.
use Rattle.std.specs.Prelude.{ℕ, ◌≡◌, List, Ok}
use Rattle.course_catalog.specs.Catalog.{CatalogData}
use Rattle.course_catalog.specs.Reading.{catalog_of}
use Rattle.market_settings.specs.Settings.{settings_of}
use Rattle.published_parts.specs.Markets.{Market}
use Rattle.student_roll.specs.Rolls.{roll_of}
use Rattle.student_roll.specs.Students.{RollData}
use Rattle.utility_language.specs.declared.commands.Command.{Command}
use Rattle.preference_desk.specs.declared.entry.Entry.{Entry}
use Rattle.preference_desk.specs.Journals.{IsLegalJournal, MergesStreams}
use Rattle.preference_desk.specs.MarketNames.{market_names}
use Rattle.market_host.specs.Marks.{without_mark}
use Rattle.market_host.specs.Sessions.{AreStreams}

-- the texts of a catalogue, a roll and settings stand for this market, and what its sessions say
-- are these streams
pub record IsMarketOf (catalog roll settings : List ℕ) (sessions : List (List ℕ)) (market : Market)
    (streams : List (List Command)) : Type 0 where
  pub catalog_says : catalog_of catalog ≡ Ok market.catalog
  pub roll_says : roll_of roll ≡ Ok market.roll
  pub settings_say : settings_of (without_mark settings) ≡ Ok market.settings
  pub sessions_say : AreStreams sessions streams

-- A market was held on these inputs: the texts stand for this catalogue and this roll, and the
-- journal is one that a desk for them keeps, in which each session said its commands in their
-- order.
pub record IsHeld (catalog roll : List ℕ) (sessions : List (List ℕ)) (offered : CatalogData)
    (enrolled : RollData) (journal : List Entry) : Type 0 where
  pub catalog_says : catalog_of catalog ≡ Ok offered
  pub roll_says : roll_of roll ≡ Ok enrolled
  pub legal : IsLegalJournal (market_names offered.sections enrolled.students) journal
  pub merged : (streams : List (List Command)) × AreStreams sessions streams
      × MergesStreams streams journal

-- the texts of a catalogue and a roll stand for these
pub record SayTables (catalog roll : List ℕ) (offered : CatalogData) (enrolled : RollData)
    : Type 0 where
  pub catalog_says : catalog_of catalog ≡ Ok offered
  pub roll_says : roll_of roll ≡ Ok enrolled

-- the texts of a catalogue, a roll and settings stand for this market
pub record SayMarket (catalog roll settings : List ℕ) (market : Market) : Type 0 where
  pub catalog_says : catalog_of catalog ≡ Ok market.catalog
  pub roll_says : roll_of roll ≡ Ok market.roll
  pub settings_say : settings_of (without_mark settings) ≡ Ok market.settings
