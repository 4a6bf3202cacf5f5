-- What `run` prints, and what it writes where no prices are found.
use Rattle.std.specs.Prelude.{ℕ, ◌≡◌, List, [], ◌∷◌, ◌++◌}
use Rattle.market_certificate.specs.Texts.{order_line}
use Rattle.published_market.specs.Publishing.{IsPublishedText, IsUnpriced}
use Rattle.published_parts.specs.Markets.{Market}
use Rattle.utility_language.specs.declared.commands.Command.{Command}
use Rattle.market_host.specs.Lines.{no_prices_line}
use Rattle.market_host.specs.Markets.{IsMarketOf}

-- the text is what is published of that market, where the commands of all sessions are taken in
-- some order
abbrev pub IsPublishedOf : List ℕ → List ℕ → List ℕ → List (List ℕ) → List ℕ → Type 0
IsPublishedOf catalog roll settings sessions text =
    (market : Market) × (streams : List (List Command))
    × IsMarketOf catalog roll settings sessions market streams
    × (order : List ℕ) × IsPublishedText market streams order text

-- The market finds no prices where the commands of all sessions are taken in some order, and this
-- is the least error. The text tells both: the line of that order, and the line of that error.
abbrev pub IsUnpricedOf : List ℕ → List ℕ → List ℕ → List (List ℕ) → ℕ → List ℕ → Type 0
IsUnpricedOf catalog roll settings sessions least text =
    (market : Market) × (streams : List (List Command))
    × IsMarketOf catalog roll settings sessions market streams
    × (order : List ℕ) × IsUnpriced market streams order least
    × (text ≡ (order_line order ++ 10 ∷ []) ++ no_prices_line least)

-- what is printed for the texts of a catalogue, a roll, settings and sessions
abbrev pub PrintsRun : List (List ℕ) → List ℕ → Type 0
PrintsRun (catalog ∷ roll ∷ settings ∷ sessions) text =
    IsPublishedOf catalog roll settings sessions text
PrintsRun texts text = ⊥

-- what is written for these texts where no prices are found, and this is the least error
abbrev pub TellsUnpriced : List (List ℕ) → ℕ → List ℕ → Type 0
TellsUnpriced (catalog ∷ roll ∷ settings ∷ sessions) least text =
    IsUnpricedOf catalog roll settings sessions least text
TellsUnpriced texts least text = ⊥
