use Rattle.std.proofs.Common.{arith}
use Rattle.bundle_rules.specs.Demand.{price_in}
use Rattle.demand_oracle.proofs.reach.tests.nodes_pruned.Goals as goal

pub invariant_of-begin : goal.invariant_of-begin
invariant_of-begin g c = record {
  summed_is = c.root-root.ensures.summed c.args.offer.now.menu.now (price_in c.args.offer.now.prices.now);
  undecided = omega (arith, c.root-root.ensures.place);
  on_menu = omega (arith, c.requires);
}

pub invariant_of-taken : goal.invariant_of-taken
invariant_of-taken g c = record {
  summed_is = c.begun_with-with_first.ensures.sums;
  undecided = omega arith;
  on_menu = omega (arith, c.requires);
}

pub invariant_of-passed : goal.invariant_of-passed
invariant_of-passed g c = record {
  summed_is = c.root-root.ensures.summed c.args.offer.now.menu.now (price_in c.args.offer.now.prices.now);
  undecided = omega (arith, c.root-root.ensures.place);
  on_menu = omega (arith, c.requires);
}
