use Rattle.std.proofs.Common.{◌≡◌, length}
use Rattle.demand_api.specs.Views.{data_of}
use Rattle.demand_workers.proofs.Surveying.{AreWritten}
use Rattle.demand_workers.proofs.unsettled.write_found.Given as goal

-- the bundles found so far are written
abbrev pub invariant-loop-place : goal.invariant-loop-place
invariant-loop-place l = record {
  len : length l.bundles ≡ length l.fn.bundles;
  written : AreWritten (data_of l._crowd) l._prices l.version (length l.fn.bundles) l.place l.inquiries l.bundles;
}
