use Rattle.demand_api.proofs.Keeping.{best_without_stays}
use Rattle.own_price.proofs.laws.best_without_stays.Goals as goal

pub returns : goal.returns
returns c = best_without_stays
