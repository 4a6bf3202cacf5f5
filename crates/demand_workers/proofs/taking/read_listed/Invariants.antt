use Rattle.std.proofs.Common.{◌≡◌, ◌<◌, ℕ, length, slice_index_or}
use Rattle.bundle_rules.specs.Bundles.{sections_of}
use Rattle.demand_api.specs.Crowds.{demand_of}
use Rattle.demand_workers.specs.Views.{crowd_of, price_before}
use Rattle.demand_workers.proofs.taking.read_listed.Given as goal

-- the bundles of the students so far are written
abbrev pub invariant-loop-place : goal.invariant-loop-place
invariant-loop-place l = record {
  len : length l.bundles ≡ length l.fn.bundles;
  done : (k : ℕ) (d : _) (e : _) → k < l.place
      → sections_of (slice_index_or l.bundles k d) ≡ demand_of (crowd_of l.remembered) (price_before l.remembered) (slice_index_or l.students k e).0;
}
