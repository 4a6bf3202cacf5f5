use Rattle.demand_api.proofs.Counts.{demands_by_top}
use Rattle.demand_api.proofs.laws.demands_by_top.Goals as goal

pub returns : goal.returns
returns c = demands_by_top
