use Rattle.std.proofs.Common.{◌≡◌, ◌≤◌, ◌*◌, ◌^◌, length, map, take}
use Rattle.market_certificate.specs.Publications.{Proved}
use Rattle.market_certificate.specs.Views.{proved_of}
use Rattle.market_units.specs.Totals.{total}
use Rattle.market_run.proofs.sums.bundle_trees.Given as goal

abbrev pub invariant-bundles : goal.invariant-bundles
invariant-bundles l = record {
  sum : l.bytes ≡ total (λ (proved : Proved). length proved.tree) (map proved_of (take l.proved-index l.bundles));
  most : l.bytes ≤ 2 ^ 64 * l.proved-index;
}
