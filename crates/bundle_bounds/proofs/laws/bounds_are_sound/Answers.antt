use Rattle.bundle_bounds.proofs.Soundness.{bound_soundness}
use Rattle.bundle_bounds.proofs.laws.bounds_are_sound.Goals as goal

pub returns : goal.returns
returns c = bound_soundness
