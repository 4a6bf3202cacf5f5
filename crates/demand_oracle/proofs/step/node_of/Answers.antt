use Rattle.std.proofs.Common.{arith}
use Rattle.bundle_rules.specs.Demand.{price_in}
use Rattle.demand_oracle.proofs.step.node_of.Goals as goal

pub invariant_of-step : goal.invariant_of-step
invariant_of-step c = record {
  summed_is = c.root-root.ensures.summed c.args.spot.now.offer.now.menu.now (price_in c.args.spot.now.offer.now.prices.now);
  undecided = omega (arith, c.root-root.ensures.place);
  on_menu = c.args.spot.now.on_menu;
}
