use Rattle.std.proofs.Common.{ap, take}
use Rattle.bundle_rules.specs.Ordinals.{ordinals}
use Rattle.bundle_rules.specs.Bundles.{sections_of}
use Rattle.bundle_rules.proofs.Bundled.{sections_of-IsBundle}
use Rattle.bundle_rules.proofs.bundle.Bundle.sections.Goals as goal

pub returns-clause-value : goal.returns-clause-value
unfolding sections_of
returns-clause-value c = ap (λ n. ordinals (take n c.args.self.now.sections)) c.from.ensures

pub returns-clause-bundle : goal.returns-clause-bundle
returns-clause-bundle c = sections_of-IsBundle c.args.self.now
