use Rattle.std.proofs.Common.{◌≡◌}
use Rattle.oversubscription_stage.proofs.Raises.{left}
use Rattle.oversubscription_stage.proofs.Eliminations.{IsUnderWay}
use Rattle.oversubscription_stage.proofs.settling.settle.Given as goal

abbrev pub invariant-loop-section : goal.invariant-loop-section
invariant-loop-section g l =
    (g.D.Demands.crowd l.demands ≡ g.D.Demands.crowd l.initial.demands) × IsUnderWay (g.D.Demands.crowd l.initial.demands) l.seats l.prices l.held l.rounds

abbrev pub decreases-loop-section : goal.decreases-loop-section
decreases-loop-section g l = left (g.D.Demands.crowd l.demands) l.held.prices
