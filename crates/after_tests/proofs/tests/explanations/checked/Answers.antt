use Rattle.std.proofs.Common.{arith}
use Rattle.after_tests.proofs.tests.explanations.checked.Goals as goal

pub check_forced-requires-clause-offer : goal.check_forced-requires-clause-offer
check_forced-requires-clause-offer c = record { priced = c.args.offered.now.priced; few = omega arith; within = c.args.offered.now.of_four }
