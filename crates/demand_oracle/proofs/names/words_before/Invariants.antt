use Rattle.std.proofs.Common.{◌≡◌, ◌<◌, ◌↔◌, ℕ, length, slice_index}
use Rattle.std.specs.Int.{bit_at}
use Rattle.bundle_rules.specs.Ranks.{place_at}
use Rattle.demand_oracle.proofs.names.words_before.Given as goal

-- the words of the positions whose places are passed, and the word of these positions
abbrev pub invariant-loop-place : goal.invariant-loop-place
invariant-loop-place l = record {
  whole : length l.before ≡ 60;
  filled : (p q : ℕ) → p < length l.ranked.menu.now.places → q < length l.ranked.menu.now.places → place_at l.ranked.order.now p < l.place
      → (bit_at (slice_index l.before p) q ≡ 1) ↔ (place_at l.ranked.order.now q < place_at l.ranked.order.now p);
  passed : (q : ℕ) → q < length l.ranked.menu.now.places → (bit_at l.earlier q ≡ 1) ↔ (place_at l.ranked.order.now q < l.place);
}
