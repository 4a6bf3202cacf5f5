use Rattle.std.proofs.Common.{rules, [], arith}
use Rattle.stage_tests.proofs.tests.floors.given.Goals as goal

pub give-requires-clause-within : goal.give-requires-clause-within
give-requires-clause-within g c = c.are_below-2.ensures.0 (search rules) 0 [] (omega arith)
