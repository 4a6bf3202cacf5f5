use Rattle.std.proofs.Common.{ℕ, ◌≡◌, ◌<◌, ◌+◌, [], slice_index_or}
use Rattle.std.specs.Arc.{arc_value}
use Rattle.demand_workers.specs.Rounds.{prices_of}
use Rattle.demand_workers.proofs.foreseen.Foreseen.goes_on_with.Given as goal

-- the versions so far are the same
abbrev pub invariant-loop-place : goal.invariant-loop-place
invariant-loop-place l = record {
  same : (v : ℕ) → v < l.place
      → slice_index_or (prices_of (arc_value l.self.survey.found.inquiries.round).versions.items) (l.self.done + v) [] ≡ slice_index_or (prices_of l.batch) v [];
}
