-- The search and its result.
use Rattle.std.specs.Prelude.{ℕ, ◌<◌, ◌≤◌, ◌≡◌, ◌⊎◌, List, Some}
use Rattle.market_units.specs.declared.units.Tokens.{Tokens}
use Rattle.demand_api.specs.Crowds.{CrowdData}
use Rattle.market_settings.specs.declared.reader.Settings.{Settings}
use Rattle.tabu_search.specs.Visits.{error_at, first_of_least, after_turns}

-- the search ends after so many turns: at most as many as the settings give, with the first visited
-- vector of accepted error, or with the last turn
pub record IsEnd (crowd : CrowdData) (seats : List ℕ) (settings : Settings)
    (turns : ℕ) : Type 0 where
  pub few : turns ≤ settings.turns
  pub before : (n : ℕ) → n < turns
      → settings.accept < error_at crowd seats (after_turns crowd seats settings n).current
  pub ends : (error_at crowd seats (after_turns crowd seats settings turns).current
      ≤ settings.accept)
      ⊎ (turns ≡ settings.turns)

-- the first visited vector of least error, with that error and the number of turns made
pub record IsBest (crowd : CrowdData) (seats : List ℕ) (settings : Settings) (prices : List Tokens)
    (error turns : ℕ) : Type 0 where
  pub end : IsEnd crowd seats settings turns
  pub best : first_of_least crowd seats (after_turns crowd seats settings turns).visited
      ≡ Some prices
  pub least : error_at crowd seats prices ≡ error

-- the search finds these prices: their error is accepted
pub record IsFound (crowd : CrowdData) (seats : List ℕ) (settings : Settings) (prices : List Tokens)
    (error turns : ℕ) : Type 0 where
  pub best : IsBest crowd seats settings prices error turns
  pub accepted : error ≤ settings.accept

-- the search finds no prices: the least error is not accepted
abbrev pub FindsNone : CrowdData → List ℕ → Settings → ℕ → Type 0
FindsNone crowd seats settings least =
    (prices : List Tokens) × (turns : ℕ) × IsBest crowd seats settings prices least turns
    × (settings.accept < least)
