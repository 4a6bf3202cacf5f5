use Rattle.std.proofs.Common.{◌≡◌, take, map}
use Rattle.std.specs.Vec.{vec_len}
use Rattle.stream_posting.proofs.sessions.lengths_of.Given as goal

-- the lengths of the streams so far
abbrev pub invariant-loop-stream : goal.invariant-loop-stream
invariant-loop-stream g l = l.lengths.items ≡ map vec_len (take l.stream-index l.streams)
