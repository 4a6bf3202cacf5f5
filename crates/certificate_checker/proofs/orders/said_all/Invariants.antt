use Rattle.std.proofs.Common.{[], ◌≤◌, length, get_or, map}
use Rattle.std.specs.Prelude.{slice_index_or}
use Rattle.certificate_checker.specs.Firsts.{AllBelow}
use Rattle.certificate_checker.proofs.orders.said_all.Given as goal

abbrev pub invariant-loop-place : goal.invariant-loop-place
invariant-loop-place l = AllBelow l.place (λ k. length (slice_index_or (map (λ stream. stream.items) l.streams) k []) ≤ get_or l.said k 0)
