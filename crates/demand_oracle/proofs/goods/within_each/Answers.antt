use Rattle.std.proofs.Common.{ℕ, ◌≡◌, ◌≤◌, slice_index, refl, ◌∙◌, arith}
use Rattle.std.specs.Int.{bit_at}
use Rattle.std.proofs.Math.ListN.{length-set}
use Rattle.demand_oracle.proofs.Rows.{row_more, words_more}
use Rattle.demand_oracle.proofs.goods.within_each.Goals as goal

pub loop-units-preserved : goal.loop-units-preserved
loop-units-preserved c =
    let words = c.args.words.now in
    let more = words_more words c.loop-units.word c.loop-units.units c.loop-units.invariant.has_all in
    record {
      whole = length-set c.loop-units.all c.loop-units.units _ ∙ c.loop-units.invariant.whole;
      has_all = λ column p low. more column p low;
      filled =
          row_more (λ units word. (column p : ℕ) → column ≤ units → bit_at (slice_index words column) p ≡ 1 → bit_at word p ≡ 1) c.loop-units.all
          c.loop-units.units c.loop-units.units _ refl (omega (arith, c.loop-units.invariant.whole)) c.loop-units.invariant.filled
          (λ column p low. more column p (omega arith));
    }
