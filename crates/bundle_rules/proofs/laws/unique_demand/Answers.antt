use Rattle.bundle_rules.specs.Existence.Demands.{one_best}
use Rattle.bundle_rules.proofs.laws.unique_demand.Goals as goal

pub returns : goal.returns
returns c = one_best
