use Rattle.std.proofs.Common.{ℕ, ◌≡◌, ◌<◌, length, slice_index}
use Rattle.demand_oracle.specs.OpenWords.{IsWordOf, Clashes}
use Rattle.demand_oracle.proofs.goods.clashes_of.Given as goal

-- the words of the places so far
abbrev pub invariant-loop-place : goal.invariant-loop-place
invariant-loop-place l = record {
  whole : length l.words ≡ 60;
  filled : (p : ℕ) → p < l.place → IsWordOf (Clashes l.menu p) (length l.menu.places) (slice_index l.words p);
}
