use Rattle.std.proofs.Common.{◌≡◌, ◌≤◌, ◌*◌, ◌^◌, ℕ, map, take}
use Rattle.market_units.specs.Totals.{total}
use Rattle.market_run.proofs.sums.used_seats.Given as goal

abbrev pub invariant-sections : goal.invariant-sections
invariant-sections l = record {
  sum : l.count ≡ total (λ (seats : ℕ × ℕ). seats.0) (map (λ (seats : ℕ × ℕ). seats) (take l.seats-index l.used));
  most : l.count ≤ 2 ^ 16 * l.seats-index;
}
