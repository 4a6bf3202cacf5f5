use Rattle.std.proofs.Common.{◌≡◌, ◌<◌, ℕ, get_or}
use Rattle.row_region.proofs.region.refill.Given as goal

abbrev pub invariant-loop-cell : goal.invariant-loop-cell
invariant-loop-cell g l = (k : ℕ) (d : g.row.T.Denot) → k < l.cell-index → get_or l.row k d ≡ l.fill
