use Rattle.std.proofs.Common.{◌≡◌, ◌<◌, ℕ, length, slice_index}
use Rattle.bundle_rules.specs.Ranks.{place_at}
use Rattle.demand_oracle.proofs.names.positions_by_place.Given as goal

-- the places of the positions so far
abbrev pub invariant-loop-position : goal.invariant-loop-position
invariant-loop-position l = record {
  whole : length l.at ≡ 60;
  filled : (p : ℕ) → p < l.position → slice_index l.at (place_at l.ranked.order.now p) ≡ p;
}
