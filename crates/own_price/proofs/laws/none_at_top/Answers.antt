use Rattle.demand_api.proofs.Counts.{none_at_top}
use Rattle.own_price.proofs.laws.none_at_top.Goals as goal

pub returns : goal.returns
returns c = none_at_top
