use Rattle.std.proofs.Common.{take, ◌≡◌}
use Rattle.aftermarket_stage.proofs.passes.Stage.close.Given as goal

abbrev pub invariant-loop-count : goal.invariant-loop-count
invariant-loop-count l = l.used.items ≡ take l.count-index l.count-items
