use Rattle.held_seats.proofs.Freeing.{FreeBelow}
use Rattle.held_seats.proofs.counts.free_sections.Given as goal

abbrev pub invariant-loop-place : goal.invariant-loop-place
invariant-loop-place l = FreeBelow l.filled.counts.now l.filled.seats.now l.place l.free
