use Rattle.std.proofs.Common.{ℕ, ◌<◌}
use Rattle.bundle_rules.specs.Rows.{RowIsSound}
use Rattle.bundle_rules.proofs.conditions.are_clashes.Given as goal

abbrev pub invariant-loop-place : goal.invariant-loop-place
invariant-loop-place l = (k : ℕ) → k < l.place → RowIsSound l.places l.clashes k
