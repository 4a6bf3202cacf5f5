-- What a sink in memory that never fails shows.
use Rattle.std.specs.Prelude.{ℕ, List, Option, Some, None, nat_le, if◌then◌else◌}
use Rattle.market_edge.specs.declared.sure_sink.SureSink.{SureSink}
use Rattle.market_edge.specs.Sinks.{SinkState}

-- how many bytes it may tell
abbrev pub size_of : SureSink → ℕ
size_of sink = sink.size

-- how many bytes it has taken, up to the greatest `u64`
abbrev pub count_of : SureSink → ℕ
count_of sink = sink.count

-- the bytes that it has taken, while these are at most as many as it may tell
abbrev pub told_bytes : SureSink → Option (List ℕ)
told_bytes sink = if nat_le sink.count sink.size then Some sink.bytes.items else None

-- it tells these, and no write has failed
abbrev pub shown_by : SureSink → SinkState
shown_by sink = record { taken = told_bytes sink; faults = 0 }
