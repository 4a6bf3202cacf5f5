use Rattle.std.proofs.Common.{map, take}
use Rattle.aftermarket_stage.specs.After.{terms_in}
use Rattle.held_seats.specs.Floors.{held_on}
use Rattle.aftermarket_stage.specs.HeldChoices.{Stands}
use Rattle.aftermarket_stage.specs.Runs.{HaveTurned}
use Rattle.aftermarket_stage.proofs.passes.Stage.run_pass.Given as goal

abbrev pub invariant-loop-student : goal.invariant-loop-student
invariant-loop-student l =
    HaveTurned (terms_in l.terms) l.pass (map (λ student. student.0) (take l.student-index l.order)) (held_on l.initial.self.floor)
    (held_on l.self.floor) l.initial.self.turns.items l.self.turns.items l.changed
    × Stands (terms_in l.terms) l.self.floor l.self.chooser.known.items
