use Rattle.std.proofs.Common.{sym, subst}
use Rattle.bundle_bounds.specs.Peaks.{IsPeak}
use Rattle.bundle_bounds.proofs.prospects.peak_behind.Goals as goal

pub returns-then-course-last : goal.returns-then-course-last
returns-then-course-last c =
    let last = c.args.last in
    subst (λ n. IsPeak c.args.rate.resource c.args.rate.price n c.args.more.now last) (sym c.if-course-last.true) c.requires
