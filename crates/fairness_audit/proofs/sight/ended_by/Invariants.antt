use Rattle.std.proofs.Common.{◌≡◌, None, not, take}
use Rattle.std.specs.List.{find}
use Rattle.bundle_rules.specs.Bundles.{sections_of}
use Rattle.bundle_rules.specs.Ordinals.{ordinals}
use Rattle.bundle_rules.specs.Sets.{without_section}
use Rattle.fairness_audit.specs.Envy.{is_more}
use Rattle.fairness_audit.proofs.sight.ended_by.Given as goal

-- without each of the sections so far what is seen is still worth more
abbrev pub invariant-loop-section : goal.invariant-loop-section
invariant-loop-section l =
    find (λ s. not (is_more l.menu l.own (without_section s (sections_of l.bundle)))) (ordinals (take l.section-index l.section-items)) ≡ None
