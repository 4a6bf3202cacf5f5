use Rattle.bundle_bounds.proofs.Knowing.{known_rising, known_falling}
use Rattle.bundle_bounds.proofs.known.Known.learn.Goals as goal

pub returns-then-next-sum : goal.returns-then-next-sum
returns-then-next-sum c = λ base limit rest resource all is sum_is next_is high.
    known_rising base limit rest resource all c.args.self.now is c.args.price c.args.sum c.args.next c.args.margin sum_is next_is high c.steps_within.result
    c.saturating_sub-from.result c.min-self.result c.if-next-sum.true c.steps_within.ensures.within c.saturating_sub-from.ensures c.min-self.ensures

pub returns-else-next-sum : goal.returns-else-next-sum
returns-else-next-sum c = λ base limit rest resource all is sum_is next_is high.
    known_falling base limit rest resource all c.args.self.now is c.args.price c.args.sum c.args.next c.args.margin sum_is next_is high
    c.steps_within-else-next-sum.result c.max-self.result c.if-next-sum.false c.requires.price
    (rw c.saturating_sub-most.ensures at c.steps_within-else-next-sum.ensures.high) c.steps_within-else-next-sum.ensures.within c.max-self.ensures
