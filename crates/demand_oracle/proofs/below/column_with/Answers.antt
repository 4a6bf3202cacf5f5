use Rattle.std.proofs.Common.{◌-◌, ap, ◌∙◌}
use Rattle.demand_oracle.proofs.below.column_with.Goals as goal

pub returns : goal.returns
returns c =
    let courses = c.saturating_sub.ensures ∙ ap (λ n. n - 1) c.courses_left.ensures.value in
    let budget = rw (c.budget_left-budget_left.ensures, c.from-at.ensures) at c.saturating_sub-2.ensures in
    let credits = rw (c.credits_left-credits_left.ensures.value, c.from.ensures, c.from-at.ensures) at c.saturating_sub-3.ensures in
    rw (courses, budget, credits) at c.column_for.ensures
