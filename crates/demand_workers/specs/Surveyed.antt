-- Inquiries of all students but those of whom the remembered bundle is known to be the right one.
use Rattle.std.specs.Prelude.{ℕ, ◌<◌, ◌≤◌, ◌≡◌, List, length, slice_index_or}
use Rattle.std.specs.Arc.{arc_value}
use Rattle.demand_workers.specs.declared.inquiry.Inquiries.{Inquiries}
use Rattle.demand_workers.specs.Found.{tasks_of}
use Rattle.price_board.specs.declared.round.Task.{Task}
use Rattle.price_board.specs.Tasks.{no_task}
use Rattle.demand_workers.specs.Rounds.{prices_of}
use Rattle.demand_workers.specs.Surveys.{IsSurvey}
use Rattle.demand_workers.specs.Views.{crowd_of}

-- who is not asked at one of the versions takes there what is remembered
abbrev pub AreSurveyed : Inquiries → Type 0
AreSurveyed inquiries =
    IsSurvey (crowd_of (arc_value inquiries.remembered))
    (arc_value inquiries.remembered).bundles.items (prices_of (arc_value inquiries.round).versions.items)
    (length (arc_value inquiries.round).versions.items) (tasks_of inquiries)

-- of the first n inquiries each that is at the version stands between these two places
pub record IsPart (inquiries : List Task) (n version : ℕ) (part : ℕ × ℕ) : Type 0 where
  pub within : part.1 ≤ n
  pub all : (k : ℕ) → k < n → (slice_index_or inquiries k no_task).version ≡ version
      → (part.0 ≤ k) × (k < part.1)

-- so it is with each version
abbrev pub AreParts : List Task → ℕ → List (ℕ × ℕ) → Type 0
AreParts inquiries n parts =
    (v : ℕ) (d : ℕ × ℕ) → v < length parts → IsPart inquiries n v (slice_index_or parts v d)
