use Rattle.std.proofs.Common.{◌≡◌, ◌≤◌, ◌*◌, take}
use Rattle.clearing_error.specs.Errors.{error}
use Rattle.clearing_error.proofs.parts.error.Given as goal

abbrev pub invariant-loop-section : goal.invariant-loop-section
invariant-loop-section l = (l.error ≡ error (take l.section l.counts) (take l.section l.seats) (take l.section l.prices)) × (l.error ≤ l.section * 4294836225)
