use Rattle.bundle_rules.proofs.BestValue.{best-is, best-only}
use Rattle.bundle_rules.proofs.laws.best_is_the_best.Goals as goal

pub returns : goal.returns
returns c = λ menu price budget allowed. record { itself = best-is menu price budget allowed; only = best-only menu price budget allowed }
