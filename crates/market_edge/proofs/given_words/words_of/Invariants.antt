use Rattle.std.proofs.Common.{map}
use Rattle.std.specs.String.{string_bytes}
use Rattle.market_edge.proofs.Telling.{AreFirst}
use Rattle.market_edge.proofs.given_words.words_of.Given as goal

abbrev pub invariant-words : goal.invariant-words
invariant-words g l = record {
  so_far : AreFirst (g.W.Words.tells l.source) l.number (map string_bytes l.words.items);
}
