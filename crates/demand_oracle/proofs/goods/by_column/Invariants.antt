use Rattle.std.proofs.Common.{ℕ, ◌≡◌, ◌<◌, length, slice_index}
use Rattle.std.specs.Int.{bit_at}
use Rattle.bundle_bounds.specs.Offers.{price_at}
use Rattle.bundle_bounds.specs.Views.{data_of}
use Rattle.demand_oracle.specs.PriceColumns.{column_of}
use Rattle.demand_oracle.proofs.goods.by_column.Given as goal

-- the places so far are in the words of their columns
abbrev pub invariant-loop-place : goal.invariant-loop-place
invariant-loop-place l = record {
  whole : length l.words ≡ 64;
  filled : (p : ℕ) → p < l.place → bit_at (slice_index l.words (column_of l.unit.shift (price_at (data_of l.offer) p))) p ≡ 1;
}
