use Rattle.std.proofs.Common.{ℕ, ◌≡◌, ◌<◌, length, slice_index}
use Rattle.bundle_rules.specs.Demand.{price_in}
use Rattle.bundle_rules.specs.Menus.{section_at}
use Rattle.demand_oracle.proofs.goods.prices_of.Given as goal

-- the prices of the places so far
abbrev pub invariant-loop-place : goal.invariant-loop-place
invariant-loop-place l = record {
  whole : length l.row ≡ 60;
  filled : (p : ℕ) → p < l.place → slice_index l.row p ≡ price_in l.offer.prices.now (section_at l.offer.menu.now.places p);
}
