use Rattle.std.proofs.Common.{◌≡◌, ◌<◌, ℕ, length, slice_index_or}
use Rattle.bundle_rules.specs.Bundles.{sections_of}
use Rattle.price_board.specs.Asked.{task_at}
use Rattle.price_board.specs.Terms.{demand_at}
use Rattle.demand_workers.proofs.asker.listing.read_list.Given as goal

-- the bundles so far are written
abbrev pub invariant-tasks : goal.invariant-tasks
invariant-tasks l = record {
  len : length l.found ≡ length l.fn.found;
  done : (k : ℕ) (d : _) → k < l.place → sections_of (slice_index_or l.found k d) ≡ demand_at l.answers.terms (task_at l.answers.terms k);
}
