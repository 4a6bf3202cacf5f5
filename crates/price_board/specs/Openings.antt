-- A round of a crowd.
use Rattle.std.specs.Prelude.{ℕ, ◌≡◌, ◌<◌, ◌≤◌, ⊤, Option, None, Some, List, [], length, map, All}
use Rattle.std.proofs.Common.{Vec, Global}
use Rattle.market_units.specs.declared.limits.TheConstants.{MAX_VERSIONS}
use Rattle.demand_api.specs.declared.crowd.Crowd.{Crowd}
use Rattle.demand_api.specs.Asking.{AreSectionPrices}
use Rattle.demand_api.specs.Views.{data_of}
use Rattle.price_board.specs.declared.round.Ask.{Ask}
use Rattle.price_board.specs.declared.round.Ask.TheVariants.{Counts, Exceeds}
use Rattle.price_board.specs.declared.round.Round.{Round}
use Rattle.price_board.specs.declared.round.Task.{Task}
use Rattle.price_board.specs.declared.terms.Terms.{Terms}
use Rattle.price_board.specs.Tasks.{IsTask}
use Rattle.price_board.specs.Terms.{version_count}

-- the list of a round, if it has one
abbrev pub list_of : Option (Vec Task Global) → Option (List Task)
list_of None = None
list_of (Some list) = Some list.items

-- what a round asks of a crowd
abbrev pub terms_of : Crowd → Round → Terms
terms_of crowd round =
    record {
      crowd = data_of crowd;
      versions = map (λ version. version.items) round.versions.items;
      asks = round.asks.items;
      list = list_of round.list;
    }

-- what is asked is of a section of the market
abbrev pub IsAskOf : ℕ → Ask → Type 0
IsAskOf sections Counts = ⊤
IsAskOf sections (Exceeds section limit) = section.0 < sections

-- with no list, 1 to 16 versions, and what is asked of each; with this list, tasks of the crowd at
-- the versions, and nothing else is asked
abbrev pub AreAsked : Option (List Task) → Terms → Type 0
AreAsked None terms =
    (1 ≤ version_count terms) × (version_count terms ≤ MAX_VERSIONS)
    × (length terms.asks ≡ version_count terms)
AreAsked (Some list) terms =
    All (IsTask terms.crowd (version_count terms)) list × (terms.asks ≡ [])

-- versions of prices, and what is asked of each
pub record IsRound (terms : Terms) : Type 0 where
  pub prices : All (AreSectionPrices terms.crowd.sections) terms.versions
  pub sections : All (IsAskOf terms.crowd.sections) terms.asks
  pub asked : AreAsked terms.list terms
