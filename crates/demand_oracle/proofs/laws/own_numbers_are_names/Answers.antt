use Rattle.demand_oracle.proofs.Searching.{own_numbers_are_names}
use Rattle.demand_oracle.proofs.laws.own_numbers_are_names.Goals as goal

pub returns : goal.returns
returns c = own_numbers_are_names
