use Rattle.std.proofs.Common.{ℕ, ◌<◌, ◌≤◌, ◌∙◌, length, ap, arith}
use Rattle.market_units.specs.Totals.{total}
use Rattle.market_run.proofs.Totals.{map_same, total_all, total_more}
use Rattle.market_run.proofs.sums.used_seats.Goals as goal

pub sections-preserved : goal.sections-preserved
sections-preserved c =
    let low : c.sections.seats-index < length c.args.used.now = c.sections-test.true in
    record {
      sum =
          total_more (λ (seats : ℕ × ℕ). seats.0) (λ (seats : ℕ × ℕ). seats) c.args.used.now c.sections.seats-index _ c.sections.count c.from-count.result low
          c.sections.invariant.sum c.from-count.ensures;
      most = omega arith;
    }

pub returns : goal.returns
returns c =
    let past : length c.args.used.now ≤ c.sections.seats-index = c.sections-test.false in
    total_all (λ (seats : ℕ × ℕ). seats.0) (λ (seats : ℕ × ℕ). seats) c.args.used.now c.sections.seats-index c.sections.count past c.sections.invariant.sum
    ∙ ap (total (λ (seats : ℕ × ℕ). seats.0)) (map_same c.args.used.now)
