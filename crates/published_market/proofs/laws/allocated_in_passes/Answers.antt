use Rattle.published_market.proofs.ByPass.{allocated_in_passes}
use Rattle.published_market.proofs.laws.allocated_in_passes.Goals as goal

pub returns : goal.returns
returns c = allocated_in_passes
