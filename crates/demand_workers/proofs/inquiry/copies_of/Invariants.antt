use Rattle.std.proofs.Common.{◌≡◌, take}
use Rattle.demand_workers.specs.Rounds.{prices_of}
use Rattle.demand_workers.proofs.inquiry.copies_of.Given as goal

abbrev pub invariant-loop-version : goal.invariant-loop-version
invariant-loop-version l = prices_of l.copies.items ≡ prices_of (take l.version-index l.versions)
