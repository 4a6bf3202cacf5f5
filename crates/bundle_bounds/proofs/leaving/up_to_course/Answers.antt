use Rattle.std.proofs.Common.{◌≡◌, ◌<◌, ◌+◌, ◌-◌, false, length, drop, ap, subst, arith}
use Rattle.std.proofs.Math.Seq.{drop-length}
use Rattle.std.proofs.lemmas.Bool.{ne_eqb}
use Rattle.bundle_bounds.specs.Courses.{has_course}
use Rattle.bundle_bounds.proofs.Steps.{no_prospect}
use Rattle.bundle_bounds.proofs.Adding.{none_from}
use Rattle.bundle_bounds.proofs.leaving.up_to_course.Goals as goal

pub loop-index-init : goal.loop-index-init
loop-index-init c = ap (λ ps. has_course ps c.args.course) (drop-length c.args.more.now)

pub loop-index-preserved : goal.loop-index-preserved
loop-index-preserved c =
    let low : c.loop-index.index - 1 < length c.args.more.now = omega arith in
    let next : c.loop-index.index ≡ (c.loop-index.index - 1) + 1 = omega arith in
    none_from c.args.more.now (c.loop-index.index - 1) c.args.course no_prospect low (ne_eqb _ _ c.if-more-index.false)
    (subst (λ n. has_course (drop n c.args.more.now) c.args.course ≡ false) next c.loop-index.invariant)
