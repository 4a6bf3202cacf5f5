-- A made market that is run.
use Rattle.std.specs.Prelude.{ℕ, ◌≡◌, List, [], ◌∷◌, Ok}
use Rattle.std.specs.List.{AllZip}
use Rattle.course_catalog.specs.Reading.{catalog_of}
use Rattle.market_maker.specs.Catalogs.{catalog_text}
use Rattle.market_maker.specs.Rolls.{roll_text}
use Rattle.market_maker.specs.Sessions.{first_text, second_text}
use Rattle.market_maker.specs.Settings.{settings_text}
use Rattle.market_run.specs.Held.{IsSummaryText}
use Rattle.market_settings.specs.Settings.{settings_of}
use Rattle.published_market.specs.Publishing.{IsUnpriced}
use Rattle.published_parts.specs.Markets.{Market}
use Rattle.student_roll.specs.Rolls.{roll_of}
use Rattle.utility_language.specs.declared.commands.Command.{Command}
use Rattle.utility_language.specs.Commands.{AreCommands}

-- the texts of the made market of these numbers stand for this market, and what its two sessions
-- say are these streams
pub record IsMadeMarket (seed students sections accept : ℕ) (market : Market)
    (streams : List (List Command)) : Type 0 where
  pub catalog_says : catalog_of (catalog_text students sections) ≡ Ok market.catalog
  pub roll_says : roll_of (roll_text students) ≡ Ok market.roll
  pub settings_say : settings_of (settings_text seed accept) ≡ Ok market.settings
  pub sessions_say : AllZip AreCommands
      (first_text seed students sections ∷ second_text seed students sections ∷ []) streams

-- the text is the summary of what is published of that market, where the commands of both sessions
-- are taken in some order
abbrev pub IsMadeSummary : ℕ → ℕ → ℕ → ℕ → List ℕ → Type 0
IsMadeSummary seed students sections accept text =
    (market : Market) × (streams : List (List Command))
    × IsMadeMarket seed students sections accept market streams
    × (order : List ℕ) × IsSummaryText market streams order text

-- that market finds no prices, where the commands of both sessions are taken in some order, and
-- this is the least error
abbrev pub IsMadeUnpriced : ℕ → ℕ → ℕ → ℕ → ℕ → Type 0
IsMadeUnpriced seed students sections accept least =
    (market : Market) × (streams : List (List Command))
    × IsMadeMarket seed students sections accept market streams
    × (order : List ℕ) × IsUnpriced market streams order least
