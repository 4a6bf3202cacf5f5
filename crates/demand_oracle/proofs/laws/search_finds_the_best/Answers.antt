use Rattle.demand_oracle.proofs.Searching.{search_finds_the_best}
use Rattle.demand_oracle.proofs.laws.search_finds_the_best.Goals as goal

pub returns : goal.returns
returns c = search_finds_the_best
