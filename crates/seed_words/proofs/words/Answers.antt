use Rattle.std.proofs.Common.{rules, arith, ◌≡◌, ◌∙◌, ◌++◌, ◌∷◌, [], sym}
use Rattle.std.proofs.lemmas.List.FromFn.{map-range_with_len_more}
use Rattle.seed_words.specs.Streams.{stream_word, stream_words}
use Rattle.seed_words.proofs.words.Goals as goal

pub loop-place-preserved : goal.loop-place-preserved
loop-place-preserved c =
    let pushed : c.push.new.self.items
    ≡ stream_words c.args.seed c.args.stream c.loop-place.place ++ stream_word c.args.seed c.args.stream c.loop-place.place ∷ [] =
    search rules in
    record {
      drawn = pushed ∙ sym (map-range_with_len_more (stream_word c.args.seed c.args.stream) 0 c.loop-place.place c.loop-place.place (omega arith));
      next = c.next_word.ensures.after;
    }
