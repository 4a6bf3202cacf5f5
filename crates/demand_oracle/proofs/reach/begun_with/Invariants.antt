use Rattle.std.proofs.Common.{◌≤◌}
use Rattle.bundle_bounds.specs.Views.{data_of}
use Rattle.demand_oracle.specs.Champions.{IsChampion}
use Rattle.demand_oracle.proofs.reach.begun_with.Given as goal

-- it may be taken, is a node with its sums, and has decided no place from this one on
abbrev pub invariant-loop-place : goal.invariant-loop-place
invariant-loop-place l = record {
  champion : IsChampion (data_of l.offer) l.summed;
  undecided : l.summed.node.place ≤ l.place;
}
