-- The laws of the elimination of oversubscription.
use Rattle.std.specs.Prelude.{ℕ, ◌<◌, ◌≡◌, List}
use Rattle.market_units.specs.declared.units.Tokens.{Tokens}
use Rattle.bundle_rules.specs.Demand.{price_in}
use Rattle.demand_api.specs.Crowds.{CrowdData, count}
use Rattle.demand_api.specs.Asking.{ArePricesFor}
use Rattle.oversubscription_stage.specs.Rounds.{AreCountsWithin, IsRoundAt, IsElimination, IsSettled}

-- the price of the section is higher, and no price passes the top
pub record RaisesWithinTop (crowd : CrowdData) (before after : List Tokens) (s : ℕ) : Type 0 where
  pub raised : price_in before s < price_in after s
  pub prices : ArePricesFor crowd after

-- a round raises one price by at least 1, and no price passes the top
abbrev pub RoundsRaise : Type 0
RoundsRaise =
    (crowd : CrowdData) (seats : List ℕ) (before after : List Tokens) (s : ℕ) (price : Tokens)
    → ArePricesFor crowd before → IsRoundAt crowd seats before after s price
    → RaisesWithinTop crowd before after s

-- from each start, prices for the crowd, the elimination of oversubscription ends
abbrev pub EliminationEnds : Type 0
EliminationEnds =
    (crowd : CrowdData) (seats : List ℕ) (start : List Tokens) → ArePricesFor crowd start
    → (vectors : List (List Tokens)) × IsElimination crowd seats start vectors

-- at the prices that the elimination leaves, no section has more students than seats
abbrev pub SettledWithinSeats : Type 0
SettledWithinSeats =
    (crowd : CrowdData) (seats : List ℕ) (start prices : List Tokens) (rounds : ℕ)
    → IsSettled crowd seats start prices rounds
    → AreCountsWithin crowd.sections (count crowd (price_in prices)) seats

-- from one start there is one elimination alone
abbrev pub OneElimination : Type 0
OneElimination =
    (crowd : CrowdData) (seats : List ℕ) (start : List Tokens) (one other : List (List Tokens))
    → IsElimination crowd seats start one → IsElimination crowd seats start other → one ≡ other
