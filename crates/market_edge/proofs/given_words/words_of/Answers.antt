use Rattle.std.proofs.Common.{◌≡◌, ◌+◌, [], ◌∷◌, ◌++◌, map, sym, ap, subst, ◌∙◌}
use Rattle.std.proofs.lemmas.List.{map-append}
use Rattle.std.specs.String.{string_bytes}
use Rattle.market_edge.proofs.Telling.{AreFirst, all_told, none_yet, one_more_word}
use Rattle.market_edge.proofs.given_words.words_of.Goals as goal

pub words-init : goal.words-init
words-init g c = record {
  so_far = rw c.new-words.ensures.items (none_yet (g.W.Words.tells c.args.source.now));
}

pub returns-in-Ok-None : goal.returns-in-Ok-None
returns-in-Ok-None g c =
    all_told (g.W.Words.tells c.args.source.now) c.words.number (map string_bytes c.words.words.items) c.words.invariant.so_far
    (rw (c.in-Ok-None.is, c.in-Ok-None.field-0-is) at c.word_of.ensures)

pub words-preserved : goal.words-preserved
words-preserved g c =
    let told = g.W.Words.tells c.args.source.now in
    let before = map string_bytes c.words.words.items in
    let word = string_bytes c.in-Ok-Some.word in
    let grown : map string_bytes c.push.new.self.items ≡ before ++ word ∷ [] =
    ap (map string_bytes) c.in-Ok.ensures.items ∙ map-append string_bytes c.words.words.items (c.in-Ok-Some.word ∷ []) in
    record {
      so_far =
          subst (AreFirst told (c.words.number + 1)) (sym grown)
          (one_more_word told c.words.number before word c.words.invariant.so_far (rw (c.in-Ok-Some.is, c.in-Ok-Some.field-0-is) at c.word_of.ensures));
    }
