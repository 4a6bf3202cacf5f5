-- Markets: what is offered, who is enrolled, and by what numbers the market is held.
use Rattle.std.specs.Prelude.{ℕ, List, map}
use Rattle.course_catalog.specs.Catalog.{CatalogData}
use Rattle.student_roll.specs.Students.{RollData}
use Rattle.market_settings.specs.declared.reader.Settings.{Settings}
use Rattle.preference_desk.specs.DeskNames.{DeskNames}
use Rattle.preference_desk.specs.MarketNames.{market_names}
use Rattle.market_certificate.specs.Tables.{Tables, tables_of}

-- a catalogue, a roll and settings
pub record Market : Type 0 where
  pub catalog : CatalogData
  pub roll : RollData
  pub settings : Settings

abbrev pub market_of : CatalogData → RollData → Settings → Market
market_of catalog roll settings = record { catalog = catalog; roll = roll; settings = settings }

-- the names that the market's desk knows
abbrev pub names_in : Market → DeskNames
names_in market = market_names market.catalog.sections market.roll.students

-- the seats of each section, by ordinal
abbrev pub seats_in : Market → List ℕ
seats_in market = map (λ section. section.seats) market.catalog.sections

-- what the market's published text takes of its catalogue and roll
abbrev pub tables_in : Market → Tables
tables_in market = tables_of market.catalog market.roll
