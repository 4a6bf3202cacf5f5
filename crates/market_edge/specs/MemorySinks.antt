-- What a sink in memory shows.
use Rattle.std.specs.Prelude.{ℕ, ◌≡◌, ◌⊎◌, List, Some, length, Contains}
use Rattle.market_edge.specs.declared.memory_sink.MemorySink.{MemorySink}
use Rattle.market_units.specs.Counts.{one_more}
use Rattle.market_edge.specs.Sinks.{SinkState}

-- the bytes that it has taken
abbrev pub bytes_of : MemorySink → List ℕ
bytes_of sink = sink.bytes.items

-- how many bytes it has room for, those that it has taken among them
abbrev pub size_of : MemorySink → ℕ
size_of sink = sink.size

-- the numbers of the writes that fail
abbrev pub failing_of : MemorySink → List ℕ
failing_of sink = sink.failing.items

-- how many writes were made
abbrev pub writes_of : MemorySink → ℕ
writes_of sink = sink.writes

-- how many of them failed
abbrev pub faults_of : MemorySink → ℕ
faults_of sink = sink.faults

-- it tells what it has taken
abbrev pub taken_by : MemorySink → SinkState
taken_by sink = record { taken = Some (bytes_of sink); faults = faults_of sink }

-- one more write was made; the room and the numbers of the writes that fail stay
pub record IsNextWrite (before after : MemorySink) : Type 0 where
  pub writes : writes_of after ≡ one_more (writes_of before)
  pub size : size_of after ≡ size_of before
  pub failing : failing_of after ≡ failing_of before

-- no room is left, or the next write is to fail by its number
abbrev pub IsRefused : MemorySink → Type 0
IsRefused sink =
    (length sink.bytes.items ≡ sink.size) ⊎ Contains sink.failing.items (one_more sink.writes)
