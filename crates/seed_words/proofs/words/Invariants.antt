use Rattle.std.proofs.Common.{◌≡◌}
use Rattle.seed_words.specs.Streams.{at_word, stream_words}
use Rattle.seed_words.proofs.words.Given as goal

-- as many words as the place says were drawn, and the generator comes to the next
abbrev pub invariant-loop-place : goal.invariant-loop-place
invariant-loop-place l = record {
  drawn : l.drawn.items ≡ stream_words l.seed l.stream l.place;
  next : l.generator ≡ at_word l.seed l.stream l.place;
}
