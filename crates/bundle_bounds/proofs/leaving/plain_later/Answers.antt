use Rattle.std.proofs.Common.{◌-◌, ◌∙◌, ap}
use Rattle.bundle_bounds.specs.declared.prospects.Resource.TheVariants.{Count}
use Rattle.bundle_bounds.specs.Bounds.{over_price}
use Rattle.bundle_bounds.proofs.Adding.{plain_without}
use Rattle.bundle_bounds.proofs.leaving.plain_later.Goals as goal

pub overflow_sub-result : goal.overflow_sub-result
overflow_sub-result c =
    (plain_without c.args.front.now.one.now c.args.front.now.more.now c.args.plain c.added_twice.result.0 c.requires.plain
    (c.added_twice.ensures.here ∙ ap (λ n. over_price Count 0 c.args.front.now.one.now - n) (c.args.front.now.has_all (over_price Count 0)))).fits

pub returns-clause-value : goal.returns-clause-value
returns-clause-value c =
    (plain_without c.args.front.now.one.now c.args.front.now.more.now c.args.plain c.added_twice.result.0 c.requires.plain
    (c.added_twice.ensures.here ∙ ap (λ n. over_price Count 0 c.args.front.now.one.now - n) (c.args.front.now.has_all (over_price Count 0)))).left
