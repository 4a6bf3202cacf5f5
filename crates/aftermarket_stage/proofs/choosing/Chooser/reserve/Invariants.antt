use Rattle.std.proofs.Common.{◌≡◌, length, All, None}
use Rattle.aftermarket_stage.proofs.choosing.Chooser.reserve.Given as goal

abbrev pub invariant-loop : goal.invariant-loop
invariant-loop l = (length l.known.items ≡ l.counter) × All (λ one. one ≡ None) l.known.items
