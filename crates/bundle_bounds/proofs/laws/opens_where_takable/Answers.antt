use Rattle.bundle_bounds.proofs.Openings.{opens_where_takable}
use Rattle.bundle_bounds.proofs.laws.opens_where_takable.Goals as goal

pub returns : goal.returns
returns c = opens_where_takable
