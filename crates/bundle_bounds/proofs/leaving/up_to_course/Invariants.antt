use Rattle.std.proofs.Common.{◌≡◌, false, drop}
use Rattle.bundle_bounds.specs.Courses.{has_course}
use Rattle.bundle_bounds.proofs.leaving.up_to_course.Given as goal

-- none from here on is of the course
abbrev pub invariant-loop-index : goal.invariant-loop-index
invariant-loop-index l = has_course (drop l.index l.more) l.course ≡ false
