use Rattle.std.proofs.Common.{◌≡◌, ◌+◌, length, take}
use Rattle.stream_posting.specs.Streams.{requests}
use Rattle.stream_posting.proofs.posting.post_stream.Given as goal

-- the requests so far are made, and the seat has a call for each of the others
abbrev pub invariant-loop-request : goal.invariant-loop-request
invariant-loop-request g l = record {
  of : l.seat.chronicle ≡ l.fn.seat.chronicle;
  numbered : l.seat.number ≡ l.fn.seat.number;
  posted : requests l.seat.own ≡ take l.request-index l.stream;
  left : l.seat.left + l.request-index ≡ length l.stream;
}
