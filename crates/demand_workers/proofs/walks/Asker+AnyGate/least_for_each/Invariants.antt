use Rattle.std.proofs.Common.{ℕ, ◌≡◌, ◌<◌, ◌*◌, ◌^◌, length, take}
use Rattle.std.specs.Arc.{arc_value}
use Rattle.demand_api.specs.Crowds.{top}
use Rattle.demand_api.specs.Prices.{AreLeastPrices}
use Rattle.demand_workers.specs.Allowances.{HasSpent}
use Rattle.demand_workers.specs.Views.{crowd_of, price_before}
use Rattle.demand_workers.proofs.walks.Asker+AnyGate.least_for_each.Given as goal

abbrev pub invariant-loop-place : goal.invariant-loop-place
invariant-loop-place g l = record {
  spent : (digits : ℕ) → top (crowd_of (arc_value l.fn.notes.remembered)) < 2 ^ digits
      → HasSpent (l.place * (digits * length (crowd_of (arc_value l.fn.notes.remembered)).students)) l.fn.left l.left l.fn.inquiries l.inquiries;
  same : l.notes.remembered ≡ l.fn.notes.remembered;
  least : AreLeastPrices (crowd_of (arc_value l.fn.notes.remembered)) (price_before (arc_value l.fn.notes.remembered)) (take l.place l.pairs)
      l.found.items;
}
