use Rattle.std.proofs.Common.{◌≡◌, ◌<◌, ◌≤◌, ℕ, false}
use Rattle.std.specs.FinSet as set
use Rattle.bundle_rules.specs.Ranks.{section_of}
use Rattle.demand_oracle.proofs.renaming.allowed_in_order.Given as goal

-- the allowed ones of the positions so far
abbrev pub invariant-loop-position : goal.invariant-loop-position
invariant-loop-position l = record {
  below : (p : ℕ) → p < l.position → set.contains l.allowed p ≡ set.contains l.offer.allowed.now (section_of l.ranked.menu.now l.ranked.order.now p);
  above : (p : ℕ) → l.position ≤ p → set.contains l.allowed p ≡ false;
}
