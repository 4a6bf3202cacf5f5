use Rattle.fairness_audit.proofs.Prices.{none_lower}
use Rattle.fairness_audit.proofs.laws.no_lower_envy.Goals as goal

pub returns : goal.returns
returns c = λ a price crowd taken i j low low'. none_lower a price taken i j low low'
