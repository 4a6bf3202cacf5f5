use Rattle.std.proofs.Common.{arith}
use Rattle.after_tests.proofs.tests.explanations.try_offered.Goals as goal

pub explain-requires-clause-offer : goal.explain-requires-clause-offer
explain-requires-clause-offer g c = record { priced = c.args.offered.now.priced; few = omega arith; within = c.args.offered.now.of_four }
