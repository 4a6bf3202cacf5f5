use Rattle.demand_oracle.proofs.tests.first_after.Goals as goal

pub first_within-requires-clause-rated : goal.first_within-requires-clause-rated
first_within-requires-clause-rated g c bundle among s is = (c.best_few-best.ensures.choices bundle among).feasible.rated s is
