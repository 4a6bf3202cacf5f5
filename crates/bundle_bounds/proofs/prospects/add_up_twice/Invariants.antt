use Rattle.std.proofs.Common.{◌≡◌, ◌≤◌, ◌+◌, ◌-◌, ◌*◌, ◌==◌, ℕ, length, drop}
use Rattle.std.specs.Int.{bit_at}
use Rattle.bundle_bounds.specs.Courses.{has_course, by_course}
use Rattle.bundle_bounds.specs.Bounds.{over_price}
use Rattle.bundle_bounds.specs.Peaks.{IsPeak}
use Rattle.bundle_bounds.proofs.prospects.add_up_twice.Given as goal

-- the prospects from this one on are added up at both prices
abbrev pub invariant-loop-index : goal.invariant-loop-index
invariant-loop-index l = record {
  there : (course : ℕ) → (bit_at l.courses course == 1) ≡ has_course (drop l.index l.all.list.now) course;
  peak : IsPeak l.rate.resource l.rate.price l.last.course (drop l.index l.all.list.now) l.last;
  total_is : l.sum ≡ by_course (over_price l.rate.resource l.rate.price) (drop l.index l.all.list.now);
  next_is : l.next ≡ by_course (over_price l.rate.resource (l.rate.price + 1)) (drop l.index l.all.list.now);
  small : l.sum ≤ 20000000 * (length l.all.list.now - l.index);
  next_small : l.next ≤ 20000000 * (length l.all.list.now - l.index);
}
