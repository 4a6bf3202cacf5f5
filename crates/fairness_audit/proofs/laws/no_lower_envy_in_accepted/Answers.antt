use Rattle.fairness_audit.proofs.Fairness.{no_lower_envy}
use Rattle.fairness_audit.proofs.laws.no_lower_envy_in_accepted.Goals as goal

pub returns : goal.returns
returns c = no_lower_envy
