use Rattle.std.proofs.Common.{◌+◌, ◌*◌, length}
use Rattle.worker_threads.proofs.parts.+parts.Given as goal

abbrev pub decreases-parts_from : goal.decreases-parts_from
decreases-parts_from g l = 3 * length l.s.now

abbrev pub decreases-part_and_others : goal.decreases-part_and_others
decreases-part_and_others g l = 3 * length l.others.now + 2

abbrev pub decreases-part_and_others-ours : goal.decreases-part_and_others-ours
decreases-part_and_others-ours g l = 3 * length l.others.now + 1
