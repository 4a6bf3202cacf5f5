use Rattle.std.proofs.Common.{length}
use Rattle.bundle_bounds.proofs.opens.+first_of_course.Given as goal

abbrev pub decreases-first_of_course : goal.decreases-first_of_course
decreases-first_of_course l = length l.places.now
