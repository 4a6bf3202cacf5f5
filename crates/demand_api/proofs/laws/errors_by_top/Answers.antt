use Rattle.demand_api.proofs.Counts.{errors_by_top}
use Rattle.demand_api.proofs.laws.errors_by_top.Goals as goal

pub returns : goal.returns
returns c = errors_by_top
