use Rattle.std.proofs.Common.{ℕ, ◌≡◌, ◌<◌, ◌≤◌, length, slice_index}
use Rattle.std.specs.Int.{bit_at}
use Rattle.demand_oracle.proofs.goods.within_each.Given as goal

-- the word has the places of all words so far, and those written have the places of the words up to them
abbrev pub invariant-loop-units : goal.invariant-loop-units
invariant-loop-units l = record {
  whole : length l.all ≡ 64;
  has_all : (column p : ℕ) → column < l.units → bit_at (slice_index l.words column) p ≡ 1 → bit_at l.word p ≡ 1;
  filled : (units : ℕ) → units < l.units → (column p : ℕ) → column ≤ units → bit_at (slice_index l.words column) p ≡ 1
      → bit_at (slice_index l.all units) p ≡ 1;
}
