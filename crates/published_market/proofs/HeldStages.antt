-- The stages that were held are those of the crowd.
use Rattle.std.proofs.Common.{ℕ, ◌≡◌, List, subst, sym}
use Rattle.market_units.specs.declared.units.Tokens.{Tokens}
use Rattle.bundle_rules.specs.Demand.{price_in}
use Rattle.demand_api.specs.Asking.{ArePricesFor, AreSectionPrices}
use Rattle.demand_api.specs.Crowds.{CrowdData, IsCrowd, demands}
use Rattle.oversubscription_stage.specs.Rounds.{IsSettled}
use Rattle.oversubscription_stage.proofs.Eliminations.{settled_within_seats}
use Rattle.held_seats.specs.Choices.{AreHeldWithin}
use Rattle.published_market.proofs.Ranges.{prices_in_range}
use Rattle.published_market.proofs.Settled.{settled_prices}

-- the last prices may be asked, and are in range
pub last_priced : (crowd : CrowdData) (seats : List ℕ) (start prices : List Tokens) (rounds : ℕ) → IsCrowd crowd → ArePricesFor crowd start
    → IsSettled crowd seats start prices rounds → AreSectionPrices crowd.sections prices
last_priced crowd seats start prices rounds known are is = prices_in_range crowd prices known (settled_prices crowd seats start prices rounds are is)

-- no section is above its seats in the demands at the last prices
pub last_within : (crowd : CrowdData) (seats : List ℕ) (start prices : List Tokens) (rounds : ℕ) (bundles : List (List ℕ))
    → IsSettled crowd seats start prices rounds → bundles ≡ demands crowd (price_in prices) → AreHeldWithin crowd.sections seats bundles
last_within crowd seats start prices rounds bundles is taken =
    subst (AreHeldWithin crowd.sections seats) (sym taken) (settled_within_seats crowd seats start prices rounds is)
