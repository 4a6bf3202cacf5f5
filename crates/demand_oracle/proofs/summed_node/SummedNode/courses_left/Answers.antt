use Rattle.std.proofs.Common.{◌≤◌, arith}
use Rattle.demand_oracle.proofs.summed_node.SummedNode.courses_left.Goals as goal

pub returns-clause-high : goal.returns-clause-high
returns-clause-high c = let cap : c.args.menu.now.courses ≤ 8 = c.len.ensures.menu.caps.courses_cap in omega arith
