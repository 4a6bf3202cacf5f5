use Rattle.bundle_rules.proofs.GivenBest.{best_of_all}
use Rattle.bundle_rules.proofs.laws.best_of_all.Goals as goal

pub returns : goal.returns
returns c = best_of_all
