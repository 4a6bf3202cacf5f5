use Rattle.std.proofs.Common.{map}
use Rattle.bundle_rules.specs.Bundles.{sections_of}
use Rattle.own_price.proofs.Exchanging.{AreHoldersBelow}
use Rattle.own_price.proofs.held.Held.holders.Given as goal

abbrev pub invariant-loop-place : goal.invariant-loop-place
invariant-loop-place l = AreHoldersBelow l.section.0 (map sections_of l.self-inside.bundles.items) l.place l.students.items
