use Rattle.demand_oracle.proofs.tests.best_beside_itself.Goals as goal

pub demand_beside-requires-clause-first : goal.demand_beside-requires-clause-first
demand_beside-requires-clause-first c =
    record { choice = c.demand-first.ensures.choice; preferred = λ other is lacks apart. c.demand-first.ensures.preferred other is apart }
