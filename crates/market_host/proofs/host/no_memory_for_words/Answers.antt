use Rattle.market_host.proofs.host.no_memory_for_words.Goals as goal

pub returns : goal.returns
returns g c = record {
  written = λ taken. (c.finish.ensures.status taken, rw (c.as_bytes.ensures, c.line_for.ensures) at (c.finish.ensures.written taken));
  sink_fault = c.finish.ensures.cause;
  replaced = λ fault. rw (c.as_bytes.ensures, c.line_for.ensures) at (c.finish.ensures.front fault);
  uncounted = c.finish.ensures.uncounted;
  later = c.finish.ensures.later;
}
