use Rattle.demand_oracle.proofs.StillFirst.{first_within_is_best}
use Rattle.demand_oracle.proofs.laws.first_within_is_best.Goals as goal

pub returns : goal.returns
returns c = first_within_is_best
