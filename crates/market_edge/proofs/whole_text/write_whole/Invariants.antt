use Rattle.std.proofs.Common.{◌≡◌, ◌≤◌, ◌-◌, length, take}
use Rattle.market_edge.specs.Sinks.{Takes}
use Rattle.market_edge.proofs.whole_text.write_whole.Given as goal

abbrev pub invariant-pieces : goal.invariant-pieces
invariant-pieces g l = record {
  within : l.done ≤ length l.text;
  taken : Takes (g.K.Sink.shows l.fn.sink).taken (g.K.Sink.shows l.sink).taken (take l.done l.text);
  uncounted : (g.K.Sink.shows l.sink).faults ≡ (g.K.Sink.shows l.fn.sink).faults;
}

-- each turn takes at least one byte
abbrev pub decreases-pieces : goal.decreases-pieces
decreases-pieces g l = length l.text - l.done
