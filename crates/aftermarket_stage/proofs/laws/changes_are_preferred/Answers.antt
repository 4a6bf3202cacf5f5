use Rattle.aftermarket_stage.proofs.Passing.{changes_are_preferred}
use Rattle.aftermarket_stage.proofs.laws.changes_are_preferred.Goals as goal

pub returns : goal.returns
returns c = changes_are_preferred
