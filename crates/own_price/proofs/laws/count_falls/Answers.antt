use Rattle.demand_api.proofs.Counts.{count_falls}
use Rattle.own_price.proofs.laws.count_falls.Goals as goal

pub returns : goal.returns
returns c = count_falls
