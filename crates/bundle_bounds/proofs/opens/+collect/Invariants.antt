use Rattle.std.proofs.Common.{length, ◌-◌}
use Rattle.bundle_bounds.proofs.opens.+collect.Given as goal

abbrev pub decreases-collect : goal.decreases-collect
decreases-collect l = length l.chosen.now.offer.now.menu.now.places - l.place
