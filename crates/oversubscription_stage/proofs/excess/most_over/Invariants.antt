use Rattle.demand_api.specs.Crowds.{holders}
use Rattle.oversubscription_stage.proofs.Finding.{MostSoFar}
use Rattle.oversubscription_stage.proofs.excess.most_over.Given as goal

abbrev pub invariant-loop-place : goal.invariant-loop-place
invariant-loop-place l = MostSoFar (λ s. holders s l.held.bundles) l.seats l.place l.greatest l.most
