-- What a search keeps after its turns.
use Rattle.std.specs.Prelude.{ℕ, ◌<◌, ◌≤◌, ◌≡◌, ◌+◌, List, [], ◌∷◌, ◌++◌, length, map, Option, Some, None}
use Rattle.market_units.specs.declared.units.Tokens.{Tokens}
use Rattle.demand_api.specs.Crowds.{CrowdData, IsCrowd, top}
use Rattle.demand_api.specs.Asking.{ArePricesFor}
use Rattle.market_settings.specs.declared.reader.Settings.{Settings}
use Rattle.tabu_search.specs.declared.visiting.Visit.{Visit}
use Rattle.tabu_search.specs.declared.walking.Walk.{Walk}
use Rattle.tabu_search.specs.Visits.{counts_at, error_at, first_of_least, last_of, after_turns, zero_prices}

-- prices of the crowd, with the counts and the error at them
pub record IsVisit (crowd : CrowdData) (seats : List ℕ) (visit : Visit) : Type 0 where
  pub prices : ArePricesFor crowd visit.prices.items
  pub counts : visit.counts.items ≡ counts_at crowd visit.prices.items
  pub error : visit.error ≡ error_at crowd seats visit.prices.items

-- a crowd, with one seat number for each section
pub record IsSeated (crowd : CrowdData) (seats : List ℕ) : Type 0 where
  pub known : IsCrowd crowd
  pub each : length seats ≡ crowd.sections

-- the visit with which a search of this crowd starts, that to the price 0 for each section
pub record IsStart (crowd : CrowdData) (seats : List ℕ) (visit : Visit) : Type 0 where
  pub seated : IsSeated crowd seats
  pub is : IsVisit crowd seats visit
  pub zero : visit.prices.items ≡ zero_prices crowd

-- the counts in a window
abbrev pub counts_in : Walk → List (List ℕ)
counts_in walk = map (λ counts. counts.items) walk.window.items

-- a visit to the vector that is meant, or none where none is
abbrev pub IsNext : CrowdData → List ℕ → Option (List Tokens) → Option Visit → Type 0
IsNext crowd seats meant None = meant ≡ None
IsNext crowd seats meant (Some visit) =
    (meant ≡ Some visit.prices.items) × IsVisit crowd seats visit

-- the walk is where the search is after its number of turns
pub record IsWalk (crowd : CrowdData) (seats : List ℕ) (settings : Settings)
    (walk : Walk) : Type 0 where
  pub seated : IsSeated crowd seats
  pub visit : IsVisit crowd seats walk.current
  pub current : walk.current.prices.items ≡ (after_turns crowd seats settings walk.turns).current
  pub best : first_of_least crowd seats (after_turns crowd seats settings walk.turns).visited
      ≡ Some walk.best.prices.items
  pub least : walk.best.error ≡ error_at crowd seats walk.best.prices.items
  pub stale : walk.stale ≡ (after_turns crowd seats settings walk.turns).stale
  pub restarts : walk.restarts ≡ (after_turns crowd seats settings walk.turns).restarts
  pub window : counts_in walk
      ≡ last_of settings.tabu
      (map (counts_at crowd) (after_turns crowd seats settings walk.turns).visited)
  pub capacity : walk.window.capacity ≡ settings.tabu
  pub top : walk.top.0 ≡ top crowd

-- the walk after one visit more, with these stale turns and restarts
pub record IsEntered (before : Walk) (visit : Visit) (stale restarts : ℕ)
    (after : Walk) : Type 0 where
  pub current : after.current ≡ visit
  pub lower : visit.error < before.best.error
      → (after.best.prices.items ≡ visit.prices.items) × (after.best.error ≡ visit.error)
  pub kept : before.best.error ≤ visit.error → after.best ≡ before.best
  pub is_stale : after.stale ≡ stale
  pub has_restarts : after.restarts ≡ restarts
  pub turns : after.turns ≡ before.turns + 1
  pub window : counts_in after
      ≡ last_of before.window.capacity (counts_in before ++ visit.counts.items ∷ [])
  pub capacity : after.window.capacity ≡ before.window.capacity
  pub top : after.top ≡ before.top
