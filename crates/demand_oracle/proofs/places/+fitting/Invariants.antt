use Rattle.demand_oracle.proofs.places.+fitting.Given as goal

abbrev pub decreases-fitting : goal.decreases-fitting
decreases-fitting l = l.courses
