use Rattle.bundle_rules.proofs.Agreements.{agrees_back, best_agrees}
use Rattle.bundle_rules.proofs.laws.agreeing_wishes_have_one_best.Goals as goal

pub returns : goal.returns
returns c =
    λ a b is price budget allowed bundle. (best_agrees a b is price budget allowed bundle, best_agrees b a (agrees_back a b is) price budget allowed bundle)
