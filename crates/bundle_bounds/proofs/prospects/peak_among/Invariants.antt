use Rattle.std.proofs.Common.{◌≡◌, ◌+◌, max, drop}
use Rattle.bundle_bounds.specs.Courses.{greatest}
use Rattle.bundle_bounds.specs.Bounds.{over_price}
use Rattle.bundle_bounds.proofs.prospects.peak_among.Given as goal

-- at both prices the greatest so far and those that are left
abbrev pub invariant-loop-prospect : goal.invariant-loop-prospect
invariant-loop-prospect l = record {
  here_is : max l.here (greatest (over_price l.rate.resource l.rate.price) l.course (drop l.prospect-index l.prospects))
      ≡ greatest (over_price l.rate.resource l.rate.price) l.course l.prospects;
  after_is : max l.after (greatest (over_price l.rate.resource (l.rate.price + 1)) l.course (drop l.prospect-index l.prospects))
      ≡ greatest (over_price l.rate.resource (l.rate.price + 1)) l.course l.prospects;
}
