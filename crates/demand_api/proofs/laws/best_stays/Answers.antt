use Rattle.demand_api.proofs.Keeping.{best_stays}
use Rattle.demand_api.proofs.laws.best_stays.Goals as goal

pub returns : goal.returns
returns c = best_stays
