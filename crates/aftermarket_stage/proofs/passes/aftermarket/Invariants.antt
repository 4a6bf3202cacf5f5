use Rattle.std.proofs.Common.{map}
use Rattle.bundle_rules.specs.Bundles.{sections_of}
use Rattle.aftermarket_stage.specs.After.{terms_of}
use Rattle.held_seats.specs.Floors.{held_on}
use Rattle.aftermarket_stage.specs.HeldChoices.{Stands}
use Rattle.aftermarket_stage.proofs.Crowding.{GoesOn, measure}
use Rattle.aftermarket_stage.proofs.passes.aftermarket.Given as goal

abbrev pub invariant-loop-changed : goal.invariant-loop-changed
invariant-loop-changed l =
    GoesOn l.changed (terms_of l.crowd l.seats l.prices l.raise) (map sections_of l.fn.bundles) (held_on l.stage.floor) l.stage.turns.items l.passes
    × Stands (terms_of l.crowd l.seats l.prices l.raise) l.stage.floor l.stage.chooser.known.items

abbrev pub decreases-loop-changed : goal.decreases-loop-changed
decreases-loop-changed l = measure (terms_of l.crowd l.seats l.prices l.raise) (held_on l.stage.floor) l.changed
