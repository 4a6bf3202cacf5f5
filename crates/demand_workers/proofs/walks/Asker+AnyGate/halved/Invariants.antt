use Rattle.std.proofs.Common.{◌-◌, length}
use Rattle.demand_api.specs.Crowds.{top}
use Rattle.demand_api.proofs.Halving.{AreHalvings, IsHalving}
use Rattle.demand_workers.specs.Views.{crowd_of}
use Rattle.demand_workers.proofs.walks.Asker+AnyGate.halved.Given as goal

-- the least price is from low to high
abbrev pub invariant-loop-low : goal.invariant-loop-low
invariant-loop-low g l = record {
  halving : IsHalving (crowd_of l.known) l.known.prices.items l.trial.items l.section.0 l.limit l.low l.high;
  students : AreHalvings (length (crowd_of l.known).students) (top (crowd_of l.known)) l.low l.high
      l.fn.inquiries l.inquiries;
}

abbrev pub decreases-loop-low : goal.decreases-loop-low
decreases-loop-low g l = l.high - l.low
