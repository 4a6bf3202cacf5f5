use Rattle.std.proofs.Common.{rules}
use Rattle.demand_oracle.proofs.Hoping.{adjustment_mutual}
use Rattle.demand_oracle.proofs.tables.hope_of.Goals as goal

pub returns-clause-value : goal.returns-clause-value
returns-clause-value c = rw (adjustment_mutual c.args.spot.now.offer.now.menu.now.pairs c.args.earlier c.args.spot.now.place) (search rules)
