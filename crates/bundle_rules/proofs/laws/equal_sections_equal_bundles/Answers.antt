use Rattle.bundle_rules.proofs.EqualBundles.{same_bundle}
use Rattle.bundle_rules.proofs.laws.equal_sections_equal_bundles.Goals as goal

pub returns : goal.returns
returns c = same_bundle
