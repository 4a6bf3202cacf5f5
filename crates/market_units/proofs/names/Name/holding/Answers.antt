use Rattle.market_units.proofs.Padding.{padded}
use Rattle.market_units.proofs.names.Name.holding.Goals as goal

pub invariant_of-result : goal.invariant_of-result
invariant_of-result c = record { holds = rw c.copy_from_slice.ensures.after (padded c.args.bytes.now c.requires) }
