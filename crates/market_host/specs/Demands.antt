-- What `demand` prints.
use Rattle.std.specs.Prelude.{ℕ, ◌≡◌, List, ◌∷◌, Ok, map}
use Rattle.course_catalog.specs.Catalog.{CatalogData}
use Rattle.demand_api.specs.Crowds.{CrowdData}
use Rattle.demand_text.specs.Taken.{taken_at}
use Rattle.demand_text.specs.Texts.{demand_text}
use Rattle.market_settings.specs.declared.reader.Settings.{Settings}
use Rattle.market_settings.specs.Settings.{settings_of}
use Rattle.market_units.specs.declared.units.Tokens.{Tokens}
use Rattle.preference_desk.specs.Journals.{IsLegalJournal, MergesStreams}
use Rattle.preference_desk.specs.MarketNames.{market_names}
use Rattle.preference_desk.specs.declared.entry.Entry.{Entry}
use Rattle.price_sheet.specs.Sheets.{prices_of}
use Rattle.published_parts.specs.Crowds.{IsCrowdIn}
use Rattle.published_parts.specs.Markets.{Market, market_of}
use Rattle.student_roll.specs.Students.{RollData}
use Rattle.utility_language.specs.declared.commands.Command.{Command}
use Rattle.market_host.specs.Markets.{IsHeld}
use Rattle.market_host.specs.Marks.{without_mark}

-- the text tells a journal that a desk for this market keeps of these streams, and what the crowd
-- of its students takes at these prices
abbrev pub TellsDemand : Market → List (List Command) → List Tokens → List ℕ → Type 0
TellsDemand market streams prices text =
    (journal : List Entry)
    × IsLegalJournal (market_names market.catalog.sections market.roll.students) journal
    × MergesStreams streams journal
    × (crowd : CrowdData) × IsCrowdIn market journal crowd
    × (text
    ≡ demand_text market.catalog.sections market.roll.students journal
    (taken_at crowd (map (λ section. section.seats) market.catalog.sections) prices))

-- The text tells one journal of a market that was held on these inputs, and what the crowd of its
-- students takes at the prices, as they were read: the bundles, the counts, and the error for the
-- seats of the catalogue.
pub record IsDemandOf (catalog roll settings prices : List ℕ) (sessions : List (List ℕ))
    (text : List ℕ) : Type 0 where
  pub offered : CatalogData
  pub enrolled : RollData
  pub journal : List Entry
  pub held : IsHeld catalog roll sessions offered enrolled journal
  pub rules : Settings
  pub settings_say : settings_of (without_mark settings) ≡ Ok rules
  pub listed : List Tokens
  pub prices_say : prices_of offered.sections prices ≡ Ok (map (λ price. price.0) listed)
  pub crowd : CrowdData
  pub closing : IsCrowdIn (market_of offered enrolled rules) journal crowd
  pub told : text
      ≡ demand_text offered.sections enrolled.students journal
      (taken_at crowd (map (λ section. section.seats) offered.sections) listed)

-- what is printed for the texts of a catalogue, a roll, settings, prices and sessions
abbrev pub PrintsDemand : List (List ℕ) → List ℕ → Type 0
PrintsDemand (catalog ∷ roll ∷ settings ∷ prices ∷ sessions) text =
    IsDemandOf catalog roll settings prices sessions text
PrintsDemand texts text = ⊥
