use Rattle.std.proofs.Common.{take, map}
use Rattle.bundle_rules.specs.Bundles.{sections_of}
use Rattle.demand_api.specs.Counting.{AreCounts}
use Rattle.demand_api.proofs.counting.count_bundles.Given as goal

abbrev pub invariant-loop-bundle : goal.invariant-loop-bundle
invariant-loop-bundle l = AreCounts l.sections (take l.bundle-index (map sections_of l.bundles)) l.counts.items
