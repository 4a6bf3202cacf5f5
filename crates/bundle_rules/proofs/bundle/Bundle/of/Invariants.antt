use Rattle.std.proofs.Common.{◌≡◌, take}
use Rattle.bundle_rules.specs.Ordinals.{ordinals}
use Rattle.bundle_rules.specs.Bundles.{sections_of}
use Rattle.bundle_rules.proofs.bundle.Bundle.of.Given as goal

abbrev pub invariant-loop-section : goal.invariant-loop-section
invariant-loop-section l = sections_of l.bundle ≡ ordinals (take l.section-index l.sections)
