-- What words in memory tell.
use Rattle.std.specs.Prelude.{ℕ, List, map}
use Rattle.market_edge.specs.declared.memory_words.MemoryWords.{MemoryWords}

-- the bytes of each word
abbrev pub words_in : MemoryWords → List (List ℕ)
words_in source = map (λ word. word.items) source.words.items
