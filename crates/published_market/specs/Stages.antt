-- The three stages of a market, as the code holds them.
use Rattle.std.specs.Prelude.{ℕ, ◌≡◌, List, map}
use Rattle.market_units.specs.declared.units.Tokens.{Tokens}
use Rattle.bundle_rules.specs.Bundles.{sections_of}
use Rattle.bundle_rules.specs.Demand.{price_in}
use Rattle.bundle_rules.specs.Places.{places_from}
use Rattle.demand_api.specs.Asking.{ArePricesFor}
use Rattle.demand_api.specs.Crowds.{CrowdData, demands, holders}
use Rattle.market_settings.specs.declared.reader.Settings.{Settings}
use Rattle.tabu_search.specs.Search.{IsFound}
use Rattle.oversubscription_stage.specs.Rounds.{IsSettled}
use Rattle.aftermarket_stage.specs.After.{turns_of}
use Rattle.aftermarket_stage.specs.Passes.{IsAftermarket}
use Rattle.aftermarket_stage.specs.Turns.{TurnData, after_turns}
use Rattle.held_seats.specs.Choices.{AreHeldWithin}
use Rattle.published_market.specs.declared.publishing.Stages.{Stages}
use Rattle.published_market.specs.Publishing.{Lengths, lengths_of, terms_at}

-- what the stages come to: the found prices and their error, the last prices, the bundles at these,
-- the turns, what is held after them, and how many hold each section
pub record StageData : Type 0 where
  pub start : List Tokens
  pub error : ℕ
  pub prices : List Tokens
  pub bundles : List (List ℕ)
  pub turns : List TurnData
  pub held : List (List ℕ)
  pub used : List ℕ
  pub lengths : Lengths

abbrev pub stages_of : Stages → StageData
stages_of stages = record {
  start = stages.found.prices.items;
  error = stages.found.error;
  prices = stages.settled.prices.items;
  bundles = map sections_of stages.settled.bundles.items;
  turns = turns_of stages.after.turns.items;
  held = map sections_of stages.after.bundles.items;
  used = stages.after.used.items;
  lengths = lengths_of stages.found.turns stages.settled.rounds stages.after.passes;
}

-- these are the stages of a crowd
pub record AreStages (crowd : CrowdData) (seats : List ℕ) (settings : Settings)
    (stages : StageData) : Type 0 where
  pub found : IsFound crowd seats settings stages.start stages.error stages.lengths.turns
  pub settled : IsSettled crowd seats stages.start stages.prices stages.lengths.rounds
  pub bundles : stages.bundles ≡ demands crowd (price_in stages.prices)
  pub made : IsAftermarket (terms_at crowd seats stages.prices settings.raise) stages.bundles
      stages.turns stages.lengths.passes
  pub held : stages.held ≡ after_turns stages.bundles stages.turns
  pub used : stages.used ≡ map (λ s. holders s stages.held) (places_from 0 crowd.sections)
  pub within : AreHeldWithin crowd.sections seats stages.held
  pub start_are : ArePricesFor crowd stages.start
  pub prices_are : ArePricesFor crowd stages.prices
