use Rattle.published_parts.proofs.OneCrowds.{one_crowd_after}
use Rattle.published_parts.proofs.laws.one_crowd.Goals as goal

pub returns : goal.returns
returns c = one_crowd_after
