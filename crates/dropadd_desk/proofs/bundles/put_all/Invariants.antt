use Rattle.std.proofs.Common.{◌≡◌, ◌++◌, take}
use Rattle.bundle_rules.specs.Bundles.{sections_of}
use Rattle.bundle_rules.specs.Ordinals.{ordinals}
use Rattle.dropadd_desk.proofs.bundles.put_all.Given as goal

-- the sections so far stand behind the bundle's own
abbrev pub invariant-loop-section : goal.invariant-loop-section
invariant-loop-section l = sections_of l.whole ≡ sections_of l.fn.bundle ++ ordinals (take l.section-index l.sections)
