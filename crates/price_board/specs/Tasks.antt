-- What a task asks.
use Rattle.std.specs.Prelude.{ℕ, ◌≡◌, ◌<◌, ◌≤◌, Option, None, Some, List, [], length, slice_index_or, slice_set}
use Rattle.market_units.specs.declared.units.SectionNo.{SectionNo}
use Rattle.market_units.specs.declared.units.Tokens.{Tokens}
use Rattle.bundle_rules.specs.Demand.{price_in}
use Rattle.demand_api.specs.Crowds.{CrowdData, demand_of, top}
use Rattle.price_board.specs.declared.round.Task.{Task}

-- these prices, with the told one for its section
abbrev pub with_raised : Option (SectionNo × Tokens) → List Tokens → List Tokens
with_raised None prices = prices
with_raised (Some raised) prices = slice_set prices raised.0.0 raised.1

-- the prices at which the student is asked
abbrev pub prices_at : List (List Tokens) → Task → List Tokens
prices_at versions task = with_raised task.raised (slice_index_or versions task.version [])

-- what the student takes there
abbrev pub taken_at : CrowdData → List (List Tokens) → Task → List ℕ
taken_at crowd versions task =
    demand_of crowd (price_in (prices_at versions task)) task.student.0

-- a told price is of a section of the crowd, and at most the top
abbrev pub CanBeRaised : CrowdData → Option (SectionNo × Tokens) → Type 0
CanBeRaised crowd raised =
    (told : SectionNo × Tokens) → raised ≡ Some told
    → (told.0.0 < crowd.sections) × (told.1.0 ≤ top crowd)

-- the student is one of the crowd, the version one of so many, and a told price can be asked
pub record IsTask (crowd : CrowdData) (versions : ℕ) (task : Task) : Type 0 where
  pub student : task.student.0 < length crowd.students
  pub its_version : task.version < versions
  pub its_price : CanBeRaised crowd task.raised

-- a task that stands for one that is not there
abbrev pub no_task : Task
no_task = record { version = 0; student = record { 0 = 0 }; raised = None }
