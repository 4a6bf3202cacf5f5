use Rattle.std.proofs.Common.{◌≡◌, ◌+◌, ◌≤◌, Some, map, refl, sym, ap, ◌∙◌, length, take, drop, ◌++◌, arith}
use Rattle.std.specs.Option.{option_map}
use Rattle.std.proofs.lemmas.List.{length-append}
use Rattle.std.proofs.lemmas.Option.{slice_get-get_or, slice_get-map}
use Rattle.std.proofs.Math.Seq.{take-append_seam}
use Rattle.market_edge.proofs.memory_words.MemoryWordsWords.word.Goals as goal

pub returns : goal.returns
returns c =
    let words = c.args.self.now.words.items in
    let piece = c.copy_from_slice.new.self in
    let rest = drop c.len-3.result c.args.room.now in
    let long : length piece ≡ c.len-4.result = ap length c.copy_from_slice.ensures.after ∙ c.deref.ensures.len ∙ sym c.len-4.ensures in
    let front : take c.len-4.result (piece ++ rest) ≡ piece = ap (λ n. take n (piece ++ rest)) (sym long) ∙ take-append_seam piece rest in (
      omega (arith, length-append piece rest, long),
      slice_get-map (λ word. word.items) words c.args.number
          ∙ ap (option_map (λ word. word.items)) (slice_get-get_or words c.args.number c.index-word.result.now (omega (arith, c.if-number-len.false, c.len.ensures, c.args.self.now.words.ok)) ∙ ap Some (sym c.index-word.ensures))
          ∙ ap Some (sym c.deref.ensures.value ∙ sym c.copy_from_slice.ensures.after ∙ sym front),
    )
