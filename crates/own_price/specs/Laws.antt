-- The laws of a section's own price.
use Rattle.std.specs.Prelude.{ℕ, ◌≤◌, ◌≡◌, Bool, false, List}
use Rattle.market_units.specs.Members.{has}
use Rattle.bundle_rules.specs.Wishes.{Wishes}
use Rattle.bundle_rules.specs.Demand.{IsBest}
use Rattle.demand_api.specs.Crowds.{CrowdData, top, count}
use Rattle.demand_api.specs.Prices.{IsRaised}
use Rattle.own_price.specs.Least.{IsLeastPrice}

-- a best bundle that lacks a section stays the best where only that section's price is raised
abbrev pub BestWithoutStays : Type 0
BestWithoutStays =
    (wishes : Wishes) (s : ℕ) (before after : ℕ → ℕ) (budget : ℕ) (allowed : ℕ → Bool)
    (bundle : List ℕ)
    → IsRaised s before after → has bundle s ≡ false
    → IsBest wishes before budget allowed bundle → IsBest wishes after budget allowed bundle

-- so no more students take a section where only its price is raised
abbrev pub CountFalls : Type 0
CountFalls =
    (crowd : CrowdData) (s : ℕ) (before after : ℕ → ℕ) → IsRaised s before after
    → count crowd after s ≤ count crowd before s

-- and none take it at the top
abbrev pub NoneAtTop : Type 0
NoneAtTop =
    (crowd : CrowdData) (s : ℕ) (price : ℕ → ℕ) → top crowd ≤ price s → count crowd price s ≡ 0

-- at most one price is the least
abbrev pub OneLeastPrice : Type 0
OneLeastPrice =
    (crowd : CrowdData) (price : ℕ → ℕ) (s limit one other : ℕ)
    → IsLeastPrice crowd price s limit one → IsLeastPrice crowd price s limit other → one ≡ other
