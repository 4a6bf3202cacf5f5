use Rattle.std.proofs.Common.{length}
use Rattle.bundle_bounds.proofs.opens.+price_of.Given as goal

abbrev pub decreases-price_of : goal.decreases-price_of
decreases-price_of l = length l.picks.now.places.now
