use Rattle.std.proofs.Common.{arith, ◌≡◌, ◌+◌, ◌≤◌, ◌<◌, ◌^◌, ◌∙◌, ℕ, take, slice_index}
use Rattle.chronicle.specs.Views.{sum_of}
use Rattle.chronicle.proofs.Dealing.{sum_with_next, sum_of-take-le}
use Rattle.chronicle.proofs.sums.sum.Goals as goal

pub loop-i-preserved : goal.loop-i-preserved
loop-i-preserved c = c.in_ok-calls.ensures.1 ∙ sum_with_next c.loop-i.i c.loop-i.calls c.args.allotments.now (omega arith) c.loop-i.invariant

pub returns-in_err-calls-clause-none : goal.returns-in_err-calls-clause-none
returns-in_err-calls-clause-none c =
    let items = c.args.allotments.now in
    let i : ℕ = c.loop-i.i in
    let this : ℕ = slice_index items i in
    let after : ℕ = sum_of (take (i + 1) items) in
    let whole : ℕ = sum_of items in
    let next : c.loop-i.calls + this ≡ after = sum_with_next i c.loop-i.calls items (omega arith) c.loop-i.invariant in
    let most : after ≤ whole = sum_of-take-le (i + 1) items in
    let over : ¬ (c.loop-i.calls + this < 2 ^ 64) = c.in_err-calls.ensures in
    rw c.from_residual.ensures (let goal : 2 ^ 64 ≤ whole = omega arith in goal)
