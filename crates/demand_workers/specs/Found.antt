-- What was found for the inquiries of a round.
use Rattle.std.specs.Prelude.{ℕ, ◌≡◌, ◌<◌, List, length, slice_index_or}
use Rattle.std.specs.Arc.{arc_value}
use Rattle.bundle_rules.specs.declared.bundle.Bundle.{Bundle}
use Rattle.bundle_rules.specs.Bundles.{sections_of}
use Rattle.price_board.specs.declared.round.Task.{Task}
use Rattle.price_board.specs.declared.terms.Terms.{Terms}
use Rattle.price_board.specs.Asked.{task_at}
use Rattle.price_board.specs.Terms.{demand_at, task_count}
use Rattle.price_board.specs.Tasks.{no_task, taken_at}
use Rattle.demand_workers.specs.declared.inquiry.Inquiries.{Inquiries}
use Rattle.demand_workers.specs.Inquiries.{tasks_in}
use Rattle.demand_workers.specs.Rounds.{prices_of}
use Rattle.demand_workers.specs.Views.{crowd_of}

-- the tasks of inquiries
abbrev pub tasks_of : Inquiries → List Task
tasks_of inquiries = tasks_in (arc_value inquiries.round)

-- these bundles are what the students take
pub record AreFound (inquiries : Inquiries) (bundles : List Bundle) : Type 0 where
  pub each : length bundles ≡ length (tasks_of inquiries)
  pub right : (k : ℕ) (d : Bundle) → k < length bundles
      → sections_of (slice_index_or bundles k d)
      ≡ taken_at (crowd_of (arc_value inquiries.remembered))
      (prices_of (arc_value inquiries.round).versions.items)
      (slice_index_or (tasks_of inquiries) k no_task)

-- these bundles are what the students of a board's tasks take, in the order of the tasks
pub record AreRead (terms : Terms) (bundles : List Bundle) : Type 0 where
  pub each : length bundles ≡ task_count terms
  pub right : (k : ℕ) (d : Bundle) → k < length bundles
      → sections_of (slice_index_or bundles k d) ≡ demand_at terms (task_at terms k)
