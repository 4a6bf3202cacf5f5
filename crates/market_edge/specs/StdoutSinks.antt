-- What a sink over a writer shows.
use Rattle.market_edge.specs.declared.stdout_sink.StdoutSink.{StdoutSink}

-- the writer that it passes each piece on to
abbrev pub writer_of : {W : Type 0} → StdoutSink W → W
writer_of sink = sink.writer
