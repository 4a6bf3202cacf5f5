use Rattle.std.proofs.Common.{ℕ, ◌+◌, ◌*◌, ◌-◌, ◌<◌, ◌^◌, ◌≡◌, length, take}
use Rattle.bundle_rules.specs.Demand.{price_in}
use Rattle.demand_api.specs.Crowds.{top}
use Rattle.demand_api.specs.Prices.{AreLeastPrices}
use Rattle.demand_api.specs.Asking.{RoseAtMost, RoseByDigits}
use Rattle.demand_api.proofs.Halving.{AreHalvings, IsHalving, IsTrial}
use Rattle.demand_api.proofs.asking.Demands.least_prices.Given as goal

abbrev pub invariant-loop-low : goal.invariant-loop-low
invariant-loop-low g l = record {
  same : g.Self.Demands.crowd l.self ≡ g.Self.Demands.crowd l.initial.self;
  halving : IsHalving (g.Self.Demands.crowd l.fn.self) l.prices l.trial.items l.section.0 l.limit l.low l.high;
  calls : AreHalvings 1 (top (g.Self.Demands.crowd l.fn.self)) l.low l.high (g.Self.Demands.asked l.initial.self) (g.Self.Demands.asked l.self);
  students : AreHalvings (length (g.Self.Demands.crowd l.fn.self).students) (top (g.Self.Demands.crowd l.fn.self)) l.low l.high
      (g.Self.Demands.inquiries l.initial.self) (g.Self.Demands.inquiries l.self);
}

abbrev pub decreases-loop-low : goal.decreases-loop-low
decreases-loop-low g l = l.high - l.low

abbrev pub invariant-loop-section : goal.invariant-loop-section
invariant-loop-section g l = record {
  same : g.Self.Demands.crowd l.self ≡ g.Self.Demands.crowd l.initial.self;
  least : AreLeastPrices (g.Self.Demands.crowd l.initial.self) (price_in l.prices) (take l.section-index l.pairs) l.found.items;
  calls : RoseByDigits l.section-index (top (g.Self.Demands.crowd l.initial.self)) (g.Self.Demands.asked l.initial.self) (g.Self.Demands.asked l.self);
  students : (digits : ℕ) → top (g.Self.Demands.crowd l.initial.self) < 2 ^ digits
      → RoseAtMost (l.section-index * length (g.Self.Demands.crowd l.initial.self).students * (2 * digits + 1))
      (g.Self.Demands.inquiries l.initial.self) (g.Self.Demands.inquiries l.self);
  trial : IsTrial (g.Self.Demands.crowd l.initial.self) l.prices l.trial.items;
}
