use Rattle.bundle_rules.proofs.FirstDifference.{ahead_is_the_first_difference}
use Rattle.bundle_rules.proofs.laws.ahead_is_the_first_difference.Goals as goal

pub returns : goal.returns
returns c = ahead_is_the_first_difference
