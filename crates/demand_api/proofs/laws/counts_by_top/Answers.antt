use Rattle.demand_api.proofs.Counts.{counts_by_top}
use Rattle.demand_api.proofs.laws.counts_by_top.Goals as goal

pub returns : goal.returns
returns c = counts_by_top
