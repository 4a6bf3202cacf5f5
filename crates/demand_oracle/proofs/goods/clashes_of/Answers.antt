use Rattle.std.proofs.Common.{◌≡◌, ◌≤◌, ◌-◌, ◌*◌, ◌%◌, ◌^◌, length, ap, subst, sym, ◌∙◌, arith}
use Rattle.std.specs.Prelude.{bit_and, slice_index}
use Rattle.std.proofs.Math.ListN.{length-set}
use Rattle.demand_oracle.specs.OpenWords.{IsWordOf, Clashes}
use Rattle.demand_oracle.proofs.Rows.{row_more, clash_word}
use Rattle.demand_oracle.proofs.goods.clashes_of.Goals as goal

pub loop-place-preserved : goal.loop-place-preserved
loop-place-preserved c =
    let menu = c.args.menu.now in
    let few : length menu.places ≤ 60 = c.len-place-end.ensures.menu.places.few in
    let own : IsWordOf (Clashes menu c.loop-place.place) (length menu.places) (bit_and (slice_index menu.clashes c.loop-place.place) (1 * 2 ^ c.len.result % 2 ^ 64 - 1)) =
    clash_word menu c.len.ensures.menu c.loop-place.place c.len.result c.len.ensures.value (omega arith) in
    let read : slice_index menu.clashes c.loop-place.place ≡ slice_index c.clashes.result.now c.from.result =
    ap (λ l. slice_index l c.loop-place.place) (sym c.clashes.ensures) ∙ ap (slice_index c.clashes.result.now) (sym c.from.ensures) in
    record {
      whole = length-set c.loop-place.words c.from-in-loop-place.result _ ∙ c.loop-place.invariant.whole;
      filled =
          row_more (λ p word. IsWordOf (Clashes menu p) (length menu.places) word) c.loop-place.words c.loop-place.place c.from-in-loop-place.result _
          c.from-in-loop-place.ensures (omega (arith, c.loop-place.invariant.whole)) c.loop-place.invariant.filled
          (subst (λ w. IsWordOf (Clashes menu c.loop-place.place) (length menu.places) (bit_and w (1 * 2 ^ c.len.result % 2 ^ 64 - 1))) read own);
    }
