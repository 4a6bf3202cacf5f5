use Rattle.std.proofs.Common.{arith, ◌≡◌, ◌≤◌, ◌+◌, ◌*◌, ◌∷◌, [], ◌∙◌, ℕ, ap, refl, length, length-append}
use Rattle.std.proofs.lemmas.List.Elements.{All-push}
use Rattle.market_units.proofs.Sums.{total-append}
use Rattle.chronicle.specs.Views.{sum_of}
use Rattle.chronicle_bench.proofs.calls.share_out.Goals as goal

pub seats-preserved : goal.seats-preserved
seats-preserved c =
    let before = c.seats.allotments.items in
    let pushed = c.push_reserved.ensures.items in
    let calls : ℕ = c.args.calls in
    let all : ℕ = c.seats.all in
    let counter : ℕ = c.seats.counter in
    let most : calls ≤ 1000000 = c.requires.calls in
    let few : all ≤ counter * 1000000 = c.seats.invariant.few in
    let one_more : calls + 0 ≡ calls = omega arith in record {
      count = ap length pushed ∙ length-append before (calls ∷ []) ∙ ap (λ n. n + 1) c.seats.invariant.count;
      each = rw pushed (All-push (λ allotment. allotment ≡ calls) before calls c.seats.invariant.each refl);
      sum = ap sum_of pushed ∙ total-append (λ n. n) before (calls ∷ []) ∙ (λ i. c.seats.invariant.sum i + one_more i);
      few = (let goal : all + calls ≤ (counter + 1) * 1000000 = omega arith in goal);
      capacity = c.push_reserved.ensures.capacity ∙ c.seats.invariant.capacity;
    }
