use Rattle.std.proofs.Common.{ℕ, ◌≡◌, ◌<◌, [], false, length, slice_index_or}
use Rattle.std.specs.Prelude.{IsTrue}
use Rattle.demand_workers.specs.Remembered.{IsKept}
use Rattle.demand_workers.specs.Rounds.{prices_of}
use Rattle.demand_workers.specs.Views.{crowd_of}
use Rattle.demand_workers.proofs.unsettled.settle_row.Given as goal

-- the places of the versions so far are written
abbrev pub invariant-versions : goal.invariant-versions
invariant-versions l = record {
  len : length l.row ≡ length l.fn.row;
  written : (v : ℕ) → v < l.version → IsTrue (slice_index_or l.row v false)
      → IsKept (crowd_of l.remembered) (slice_index_or (prices_of l.versions) v []) l.remembered.bundles.items l.student;
}
