use Rattle.demand_oracle.proofs.Sound.{reach_is_sound}
use Rattle.demand_oracle.proofs.laws.reach_is_sound.Goals as goal

pub returns : goal.returns
returns c = reach_is_sound
