use Rattle.bundle_rules.proofs.GivenBest.{best_with_a_section}
use Rattle.bundle_rules.proofs.laws.best_with_a_section.Goals as goal

pub returns : goal.returns
returns c = best_with_a_section
