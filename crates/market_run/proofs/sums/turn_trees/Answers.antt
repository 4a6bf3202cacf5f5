use Rattle.std.proofs.Common.{◌≡◌, ◌<◌, ◌∙◌, length, ap, arith}
use Rattle.market_certificate.specs.Publications.{ProvedTurn as Told}
use Rattle.market_certificate.specs.Views.{turn_of}
use Rattle.market_certificate.specs.declared.publication.ProvedTurn.{ProvedTurn}
use Rattle.market_run.proofs.Totals.{total_more}
use Rattle.market_run.proofs.sums.turn_trees.Goals as goal

pub turns-preserved : goal.turns-preserved
turns-preserved c =
    let low : c.turns.turn-index < length c.args.turns.now = c.turns-test.true in
    let size : c.len.result ≡ length c.turn-item.result.tree.items = omega arith in
    record {
      sum =
          total_more (λ (turn : Told). length turn.tree) turn_of c.args.turns.now c.turns.turn-index c.turn-item.result c.turns.bytes c.len.result low
          c.turns.invariant.sum
          (size ∙ ap (λ (turn : ProvedTurn). length turn.tree.items) c.turn-item.is);
      most = omega arith;
    }
