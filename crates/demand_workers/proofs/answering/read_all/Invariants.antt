use Rattle.std.proofs.Common.{◌≡◌, ◌<◌, ℕ, length, slice_index_or}
use Rattle.bundle_rules.specs.Bundles.{sections_of}
use Rattle.price_board.specs.Terms.{demand_of}
use Rattle.demand_workers.proofs.answering.read_all.Given as goal

-- the bundles of the students so far are written
abbrev pub invariant-loop-place : goal.invariant-loop-place
invariant-loop-place l = record {
  len : length l.bundles ≡ length l.fn.bundles;
  done : (k : ℕ) (d : _) → k < l.place → sections_of (slice_index_or l.bundles k d) ≡ demand_of l.answers.terms l.version k;
}
