-- What the sessions ask for: a list of requests each.
use Rattle.std.specs.Prelude.{ℕ, List, Vec}
use Rattle.std.proofs.Common.{Global}
use Rattle.std.specs.Vec.{vec_len}
use Rattle.market_units.specs.Totals.{total}
use Rattle.dropadd_desk.specs.declared.command.HallCommand.{HallCommand}
use Rattle.stream_posting.specs.Streams.{lists_of}

-- how many requests there are in all streams together
abbrev pub request_count : List (Vec HallCommand Global) → ℕ
request_count streams = total vec_len streams

-- the requests of each stream
abbrev pub request_lists : List (Vec HallCommand Global) → List (List HallCommand)
request_lists streams = lists_of streams
