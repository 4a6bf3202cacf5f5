use Rattle.demand_oracle.proofs.reach.Reach.column.Goals as goal

pub returns : goal.returns
returns c = rw (c.courses_left.ensures.value, c.budget_left.ensures, c.credits_left.ensures.value) at c.column_for.ensures
