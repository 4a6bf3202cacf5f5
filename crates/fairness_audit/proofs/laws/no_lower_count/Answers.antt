use Rattle.fairness_audit.proofs.Prices.{none_counted_lower}
use Rattle.fairness_audit.proofs.laws.no_lower_count.Goals as goal

pub returns : goal.returns
returns c = λ a price crowd taken i low. none_counted_lower a price taken i low
