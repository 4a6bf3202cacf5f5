use Rattle.std.proofs.Common.{◌<◌, ◌≤◌, length, ◌∙◌, arith}
use Rattle.std.proofs.Math.ListN.{length-set}
use Rattle.demand_oracle.proofs.Filling.{position_more}
use Rattle.demand_oracle.proofs.names.positions_by_place.Goals as goal

pub loop-position-preserved : goal.loop-position-preserved
loop-position-preserved c =
    let m = c.args.ranked.now.menu.now in
    let few : length m.places ≤ 60 = c.len-position-end.ensures.menu.places.few in
    record {
      whole = length-set c.loop-position.at c.from.result _ ∙ c.loop-position.invariant.whole;
      filled =
          position_more (length m.places) c.args.ranked.now.order.now c.args.ranked.now.renamed.each_once c.loop-position.at c.loop-position.position c.from.result
          c.loop-position.invariant.whole (omega arith) (c.from.ensures ∙ c.place_at-place.ensures.place)
          (let on : c.place_at-place.result < length m.places = c.place_at-place.ensures.on_menu in omega arith) c.loop-position.invariant.filled;
    }
