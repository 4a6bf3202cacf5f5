use Rattle.bundle_bounds.proofs.PrunesSoundly.{bounds_prune_soundly}
use Rattle.bundle_bounds.proofs.laws.bounds_prune_soundly.Goals as goal

pub returns : goal.returns
returns c = bounds_prune_soundly
