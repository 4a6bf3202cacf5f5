use Rattle.std.proofs.Common.{refl}
use Rattle.bundle_rules.specs.Bundles.{sections_of}
use Rattle.bundle_rules.proofs.bundle.Bundle.empty.Goals as goal

pub returns : goal.returns
unfolding sections_of
returns c = refl
