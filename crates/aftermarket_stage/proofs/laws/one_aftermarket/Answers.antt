use Rattle.aftermarket_stage.proofs.Passing.{one_aftermarket}
use Rattle.aftermarket_stage.proofs.laws.one_aftermarket.Goals as goal

pub returns : goal.returns
returns c = one_aftermarket
