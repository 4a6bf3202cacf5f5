use Rattle.std.proofs.Common.{refl}
use Rattle.bundle_rules.specs.PlaceLists.{listed}
use Rattle.bundle_rules.proofs.place_list.Places.as_slice.Goals as goal

pub returns-clause-value : goal.returns-clause-value
unfolding listed
returns-clause-value c = refl
