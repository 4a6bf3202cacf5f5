use Rattle.std.proofs.Common.{◌+◌, ◌-◌, ◌*◌, ◌∷◌, ◌∙◌, ap, subst, arith}
use Rattle.std.specs.Prelude.{IfSome}
use Rattle.bundle_bounds.specs.Bounds.{over_price}
use Rattle.bundle_bounds.specs.Tangents.{IsTangent}
use Rattle.bundle_bounds.proofs.Adding.{sum_without}
use Rattle.bundle_bounds.proofs.leaving.later.Goals as goal

pub overflow_sub-tangent : goal.overflow_sub-tangent
overflow_sub-tangent c =
    let is = subst (λ t. IfSome t (IsTangent c.requires.tangent.0 c.args.resource (c.args.front.now.one.now ∷ c.args.front.now.more.now))) c.in-Some.is c.requires.tangent.1 in
    let f = over_price c.args.resource c.in-Some.kept.price in
    (sum_without f c.args.front.now.one.now c.args.front.now.more.now (c.in-Some.kept.price * c.requires.tangent.0) c.in-Some.kept.sum c.added_twice-here.result.0 is.here
    (c.added_twice-here.ensures.here ∙ ap (λ n. f c.args.front.now.one.now - n) (c.args.front.now.has_all f))).fits

pub overflow_sub-tangent-2 : goal.overflow_sub-tangent-2
overflow_sub-tangent-2 c =
    let is = subst (λ t. IfSome t (IsTangent c.requires.tangent.0 c.args.resource (c.args.front.now.one.now ∷ c.args.front.now.more.now))) c.in-Some.is c.requires.tangent.1 in
    let f = over_price c.args.resource (c.in-Some.kept.price + 1) in
    (sum_without f c.args.front.now.one.now c.args.front.now.more.now ((c.in-Some.kept.price + 1) * c.requires.tangent.0) c.in-Some.kept.next c.added_twice-here.result.1
    is.after (c.added_twice-here.ensures.after ∙ ap (λ n. f c.args.front.now.one.now - n) (c.args.front.now.has_all f))).fits

pub returns : goal.returns
returns c = λ rest tangent.
    let is = subst (λ t. IfSome t (IsTangent rest c.args.resource (c.args.front.now.one.now ∷ c.args.front.now.more.now))) c.in-Some.is tangent in
    let small = is.small in
    let f = over_price c.args.resource c.in-Some.kept.price in
    let g = over_price c.args.resource (c.in-Some.kept.price + 1) in
    record {
      low = is.low;
      here =
          (sum_without f c.args.front.now.one.now c.args.front.now.more.now (c.in-Some.kept.price * rest) c.in-Some.kept.sum c.added_twice-here.result.0 is.here
          (c.added_twice-here.ensures.here ∙ ap (λ n. f c.args.front.now.one.now - n) (c.args.front.now.has_all f))).left;
      after =
          (sum_without g c.args.front.now.one.now c.args.front.now.more.now ((c.in-Some.kept.price + 1) * rest) c.in-Some.kept.next c.added_twice-here.result.1 is.after
          (c.added_twice-here.ensures.after ∙ ap (λ n. g c.args.front.now.one.now - n) (c.args.front.now.has_all g))).left;
      small = omega arith;
    }
