use Rattle.std.proofs.Common.{◌≡◌, ◌<◌, ◌≤◌, ℕ, length}
use Rattle.market_units.specs.declared.limits.TheConstants.{MAX_PRICE}
use Rattle.bundle_rules.specs.Demand.{price_in}
use Rattle.bundle_rules.specs.Ranks.{section_of}
use Rattle.demand_oracle.proofs.renaming.prices_in_order.Given as goal

-- the prices of the positions so far
abbrev pub invariant-loop-position : goal.invariant-loop-position
invariant-loop-position l = record {
  whole : length l.prices ≡ 60;
  filled : (p : ℕ) → p < l.position → (price_in l.prices p ≡ price_in l.offer.prices.now (section_of l.ranked.menu.now l.ranked.order.now p)) × (price_in l.prices p ≤ MAX_PRICE);
}
