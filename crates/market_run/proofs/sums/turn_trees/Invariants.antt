use Rattle.std.proofs.Common.{◌≡◌, ◌≤◌, ◌*◌, ◌^◌, length, map, take}
use Rattle.market_certificate.specs.Publications.{ProvedTurn}
use Rattle.market_certificate.specs.Views.{turn_of}
use Rattle.market_units.specs.Totals.{total}
use Rattle.market_run.proofs.sums.turn_trees.Given as goal

abbrev pub invariant-turns : goal.invariant-turns
invariant-turns l = record {
  sum : l.bytes ≡ total (λ (turn : ProvedTurn). length turn.tree) (map turn_of (take l.turn-index l.turns));
  most : l.bytes ≤ 2 ^ 64 * l.turn-index;
}
