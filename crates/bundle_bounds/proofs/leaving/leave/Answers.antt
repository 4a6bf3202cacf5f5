use Rattle.bundle_bounds.proofs.Without.{has_all}
use Rattle.bundle_bounds.proofs.leaving.leave.Goals as goal

pub invariant_of-front : goal.invariant_of-front
invariant_of-front c = record {
  has_all = has_all c.args.all.now.list.now c.up_to_course.result c.up_to_course.ensures.behind;
}
