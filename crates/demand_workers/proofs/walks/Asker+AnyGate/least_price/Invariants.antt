use Rattle.std.proofs.Common.{◌≡◌, ◌<◌, ◌≤◌, ℕ, heap_items, nat_cmp}
use Rattle.std.specs.Arc.{arc_value}
use Rattle.std.specs.BinaryHeap.{IsHeap}
use Rattle.std.specs.Ordering.{ordering_then}
use Rattle.demand_api.specs.Crowds.{count, top}
use Rattle.demand_api.specs.Prices.{with_price}
use Rattle.demand_workers.specs.Allowances.{HasSpent}
use Rattle.demand_workers.specs.Leaving.{AreLeft}
use Rattle.demand_workers.specs.Views.{crowd_of, price_before}
use Rattle.demand_workers.proofs.HoldersLeave.{room_of}
use Rattle.demand_workers.proofs.walks.Asker+AnyGate.least_price.Given as goal

-- the holders that are left at the price so far; at each lower one there are too many
abbrev pub invariant-loop-least : goal.invariant-loop-least
invariant-loop-least g l = record {
  heap : IsHeap (λ a b. ordering_then (nat_cmp a.0 b.0) (nat_cmp a.1 b.1)) (heap_items l.holders);
  left : AreLeft (crowd_of (arc_value l.fn.notes.remembered)) (price_before (arc_value l.fn.notes.remembered)) l.section.0 l.least.0 (heap_items l.holders);
  from : price_before (arc_value l.fn.notes.remembered) l.section.0 ≤ l.least.0;
  high : l.least.0 ≤ top (crowd_of (arc_value l.fn.notes.remembered));
  spent : HasSpent 0 l.fn.left l.left l.fn.inquiries l.inquiries;
  same : l.notes.remembered ≡ l.fn.notes.remembered;
  lower : (p : ℕ) → price_before (arc_value l.fn.notes.remembered) l.section.0 ≤ p → p < l.least.0
      → l.limit < count (crowd_of (arc_value l.fn.notes.remembered)) (with_price (price_before (arc_value l.fn.notes.remembered)) l.section.0 p) l.section.0;
}

abbrev pub decreases-loop-least : goal.decreases-loop-least
decreases-loop-least g l = room_of (heap_items l.holders)
