use Rattle.std.proofs.Common.{◌≡◌, ◌<◌, ◌+◌, ◌*◌, ℕ, set, replicate, sym, subst, ◌∙◌, arith, length}
use Rattle.std.proofs.Math.ListN.{length-set}
use Rattle.demand_oracle.specs.Reaches.{within_at}
use Rattle.demand_oracle.proofs.Covering.{nothing_more}
use Rattle.demand_oracle.proofs.tables.put_nothing.Goals as goal

pub loop-count-preserved : goal.loop-count-preserved
loop-count-preserved c = record {
  whole = length-set c.loop-count.most (c.from-place.result * 9 + c.loop-count.count) _ ∙ c.loop-count.invariant.whole;
  nothing =
      subst
      (λ n. (count units : ℕ) → count < c.loop-count.count + 1
      → within_at (set c.loop-count.most (n * 9 + c.loop-count.count) (replicate 64 0)) (length c.args.menu.now.places) count units ≡ 0)
      (sym (c.from-place.ensures ∙ c.len.ensures.value))
      (nothing_more c.loop-count.most (length c.args.menu.now.places) c.loop-count.count 64 (omega arith) c.loop-count.invariant.nothing);
}
