-- What is published of best bundles, each with its tree.
use Rattle.std.specs.Prelude.{ℕ, ◌<◌, List, length, slice_index_or}
use Rattle.bundle_rules.specs.Bundles.{sections_of}
use Rattle.bundle_rules.specs.Demand.{price_in}
use Rattle.demand_api.specs.Views.{data_of}
use Rattle.market_certificate.specs.declared.publication.Proved as proved
use Rattle.market_certificate.specs.declared.publication.ProvedTurn as turn
use Rattle.market_certificate.specs.Views.{proved_of, turn_of as published_of}
use Rattle.published_parts.specs.Offers.{IsProvedDemand, student_in}
use Rattle.published_market.specs.declared.chosen.Chosen.{Chosen}
use Rattle.published_market.specs.declared.taken.Taken.{Taken}
use Rattle.published_market.specs.Asked.{turn_chosen}
use Rattle.published_market.specs.Making.{HasForm, HasTurnForm}
use Rattle.published_market.specs.Turns.{IsPublishedTurn}

-- each of these is what is published of the bundle of its number
abbrev pub AreShown : {S : Type 0} → (ℕ → S → Type 0) → List S → Type 0
AreShown {S} is_shown all =
    (k : ℕ) (d : S) → k < length all → is_shown k (slice_index_or all k d)

-- what the student of a number takes, with its tree
pub record IsDemandShown (taken : Taken) (place : ℕ) (one : proved.Proved) : Type 0 where
  pub proved : IsProvedDemand taken.crowd.now.sections (price_in taken.prices.now)
      (student_in (data_of taken.crowd.now) place) (proved_of one)
  pub form : HasForm (sections_of one.bundle) one.tree.items

-- the turn of a number, with the tree of its bundle
pub record IsTurnShown (chosen : Chosen) (place : ℕ) (one : turn.ProvedTurn) : Type 0 where
  pub published : IsPublishedTurn (data_of chosen.crowd.now) chosen.prices.now chosen.raise
      (turn_chosen chosen place) (published_of one)
  pub form : HasTurnForm (published_of one)
