-- The laws of the search.
use Rattle.std.specs.Prelude.{ℕ, ◌≡◌, ◌⊎◌, List, All}
use Rattle.market_units.specs.declared.units.Tokens.{Tokens}
use Rattle.demand_api.specs.Crowds.{CrowdData}
use Rattle.demand_api.specs.Asking.{ArePricesFor}
use Rattle.market_settings.specs.declared.reader.Settings.{Settings}
use Rattle.tabu_search.specs.Visits.{after_turns}
use Rattle.tabu_search.specs.Search.{IsFound, FindsNone}

-- the search finds prices, or finds none with some least error
abbrev pub SearchEnds : Type 0
SearchEnds =
    (crowd : CrowdData) (seats : List ℕ) (settings : Settings)
    → ((prices : List Tokens) × (error : ℕ) × (turns : ℕ)
    × IsFound crowd seats settings prices error turns)
    ⊎ ((least : ℕ) × FindsNone crowd seats settings least)

-- no search both finds prices and finds none
abbrev pub NotBothAreSearched : Type 0
NotBothAreSearched =
    (crowd : CrowdData) (seats : List ℕ) (settings : Settings) (prices : List Tokens)
    (error turns least : ℕ)
    → IsFound crowd seats settings prices error turns → ¬ (FindsNone crowd seats settings least)

-- the prices that are found are one vector, with one error and one number of turns
abbrev pub OneIsFound : Type 0
OneIsFound =
    (crowd : CrowdData) (seats : List ℕ) (settings : Settings) (one other : List Tokens)
    (error error' turns turns' : ℕ)
    → IsFound crowd seats settings one error turns
    → IsFound crowd seats settings other error' turns'
    → (one ≡ other) × (error ≡ error') × (turns ≡ turns')

-- and where none are found, there is only one least error
abbrev pub OneSearchedError : Type 0
OneSearchedError =
    (crowd : CrowdData) (seats : List ℕ) (settings : Settings) (least least' : ℕ)
    → FindsNone crowd seats settings least → FindsNone crowd seats settings least' → least ≡ least'

-- every visited vector has a price for each section, each at most the top
abbrev pub VisitedArePrices : Type 0
VisitedArePrices =
    (crowd : CrowdData) (seats : List ℕ) (settings : Settings) (turns : ℕ)
    → All (ArePricesFor crowd) (after_turns crowd seats settings turns).visited
