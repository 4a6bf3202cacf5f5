use Rattle.aftermarket_stage.proofs.Passing.{aftermarket_ends}
use Rattle.aftermarket_stage.proofs.laws.aftermarket_ends.Goals as goal

pub returns : goal.returns
returns c = aftermarket_ends
