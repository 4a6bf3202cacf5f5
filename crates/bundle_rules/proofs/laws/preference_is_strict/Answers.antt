use Rattle.bundle_rules.specs.Existence.Orders.{not_preferred_itself, preferred_trans, one_preferred}
use Rattle.bundle_rules.proofs.laws.preference_is_strict.Goals as goal

pub returns : goal.returns
returns c = λ w. record { irreflexive = not_preferred_itself w; transitive = preferred_trans w; total = one_preferred w }
