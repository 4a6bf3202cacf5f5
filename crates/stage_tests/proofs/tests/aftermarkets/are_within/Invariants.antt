use Rattle.std.proofs.Common.{map}
use Rattle.bundle_rules.specs.Bundles.{sections_of}
use Rattle.held_seats.specs.Choices.{AreHeldWithin}
use Rattle.stage_tests.proofs.tests.aftermarkets.are_within.Given as goal

abbrev pub invariant-loop-place : goal.invariant-loop-place
invariant-loop-place l = AreHeldWithin l.place l.seats (map sections_of l.bundles)
