use Rattle.std.proofs.Common.{◌≡◌, ◌<◌, ◌∙◌, length, ap, arith}
use Rattle.market_certificate.specs.Publications.{Proved as Told}
use Rattle.market_certificate.specs.Views.{proved_of}
use Rattle.market_certificate.specs.declared.publication.Proved.{Proved}
use Rattle.market_run.proofs.Totals.{total_more}
use Rattle.market_run.proofs.sums.bundle_trees.Goals as goal

pub bundles-preserved : goal.bundles-preserved
bundles-preserved c =
    let low : c.bundles.proved-index < length c.args.bundles.now = c.bundles-test.true in
    let size : c.len.result ≡ length c.proved-item.result.tree.items = omega arith in
    record {
      sum =
          total_more (λ (proved : Told). length proved.tree) proved_of c.args.bundles.now c.bundles.proved-index c.proved-item.result c.bundles.bytes
          c.len.result
          low c.bundles.invariant.sum
          (size ∙ ap (λ (proved : Proved). length proved.tree.items) c.proved-item.is);
      most = omega arith;
    }
