use Rattle.demand_oracle.proofs.reach.tests.is_pruned.Goals as goal

pub prunes-requires-clause-summed : goal.prunes-requires-clause-summed
prunes-requires-clause-summed c = c.args.step.now.summed_is
