use Rattle.std.proofs.Common.{arith}
use Rattle.std.proofs.lemmas.Grind.{common_steps}
use Rattle.market_edge.proofs.TakenSoFar.{takes_next, rest_of}
use Rattle.market_edge.proofs.whole_text.write_whole.Goals as goal

pub pieces-preserved : goal.pieces-preserved
pieces-preserved g c = record {
  within = grind (arith, common_steps, c.in-Ok.ensures.bound);
  taken =
      takes_next _ (g.K.Sink.shows c.pieces.sink).taken _ c.args.text.now c.pieces.done c.in-Ok.count c.pieces.invariant.taken
      (rw (← rest_of c.args.text.now c.pieces.done c.in-Ok.count c.in-Ok.ensures.bound) c.in-Ok.ensures.bytes);
  uncounted = cc (c.pieces.invariant.uncounted, c.in-Ok.ensures.uncounted);
}
