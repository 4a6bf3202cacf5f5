-- The laws of demand.
use Rattle.std.specs.Prelude.{ℕ, ◌<◌, ◌≤◌, ◌≡◌, ◌↔◌, Bool, List, map, min}
use Rattle.market_units.specs.declared.units.Tokens.{Tokens}
use Rattle.market_units.specs.Totals.{total}
use Rattle.bundle_rules.specs.Wishes.{Wishes}
use Rattle.bundle_rules.specs.Demand.{price_in, IsBest}
use Rattle.clearing_error.specs.Errors.{error}
use Rattle.demand_api.specs.Crowds.{CrowdData, top, demands, counts}

-- a best bundle stays the best at prices at which no rated section is cheaper and the bundle is
-- affordable
abbrev pub BestStays : Type 0
BestStays =
    (wishes : Wishes) (before after : ℕ → ℕ) (budget : ℕ) (allowed : ℕ → Bool) (bundle : List ℕ)
    → ((s : ℕ) → 0 < wishes.rating s → before s ≤ after s) → total after bundle ≤ budget
    → IsBest wishes before budget allowed bundle → IsBest wishes after budget allowed bundle

-- prices at or above a price, which is above the budget, all act as that price
abbrev pub TopIsEnough : Type 0
TopIsEnough =
    (wishes : Wishes) (one other : ℕ → ℕ) (above budget : ℕ) (allowed : ℕ → Bool) (bundle : List ℕ)
    → budget < above → ((s : ℕ) → min (one s) above ≡ min (other s) above)
    → IsBest wishes one budget allowed bundle ↔ IsBest wishes other budget allowed bundle

-- so each student takes the same where all prices above the top act as the top
abbrev pub DemandsByTop : Type 0
DemandsByTop =
    (crowd : CrowdData) (one other : ℕ → ℕ)
    → ((s : ℕ) → min (one s) (top crowd) ≡ min (other s) (top crowd))
    → demands crowd one ≡ demands crowd other

-- and the counts are the same
abbrev pub CountsByTop : Type 0
CountsByTop =
    (crowd : CrowdData) (one other : ℕ → ℕ)
    → ((s : ℕ) → min (one s) (top crowd) ≡ min (other s) (top crowd))
    → counts crowd one ≡ counts crowd other

-- and the error is the same
abbrev pub ErrorsByTop : Type 0
ErrorsByTop =
    (crowd : CrowdData) (seats : List ℕ) (one other : List Tokens)
    → map (λ price. min price.0 (top crowd)) one ≡ map (λ price. min price.0 (top crowd)) other
    → error (counts crowd (price_in one)) seats one
    ≡ error (counts crowd (price_in other)) seats other
