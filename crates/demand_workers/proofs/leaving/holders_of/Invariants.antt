use Rattle.demand_workers.specs.Views.{crowd_of, price_before}
use Rattle.demand_workers.proofs.HoldersLeave.{AreMet}
use Rattle.demand_workers.proofs.leaving.holders_of.Given as goal

-- the holders among the students so far
abbrev pub invariant-loop-place : goal.invariant-loop-place
invariant-loop-place l = AreMet (crowd_of l.remembered) (price_before l.remembered) l.section.0 l.place 0 l.holders.items
