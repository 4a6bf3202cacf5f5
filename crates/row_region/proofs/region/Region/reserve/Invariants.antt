use Rattle.std.proofs.Common.{◌≡◌, ◌<◌, ℕ, length, get_or}
use Rattle.std.specs.Prelude.{All}
use Rattle.row_region.proofs.region.Region.reserve.Given as goal

-- the numbers so far are spare, and each of the rows so far is wide
abbrev pub invariant-loop-id : goal.invariant-loop-id
invariant-loop-id g l = record {
  rows_so_far : length l.all_rows.items ≡ l.id;
  ids_so_far : length l.spare_ids.items ≡ l.id;
  wide : All (λ row. length row.items ≡ l.width) l.all_rows.items;
  ids : (k : ℕ) → k < l.id → get_or l.spare_ids.items k 0 ≡ k;
}
