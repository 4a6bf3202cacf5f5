use Rattle.std.proofs.Common.{◌≡◌, take}
use Rattle.bundle_rules.specs.Bundles.{sections_of}
use Rattle.bundle_rules.specs.Ordinals.{ordinals}
use Rattle.bundle_rules.specs.Sets.{without_section}
use Rattle.fairness_audit.proofs.sight.but_for.Given as goal

-- the sections so far without the one
abbrev pub invariant-loop-other : goal.invariant-loop-other
invariant-loop-other l = sections_of l.rest ≡ without_section l.section.0 (ordinals (take l.other-index l.other-items))
