use Rattle.std.proofs.Common.{refl, ◌≡◌, ◌∙◌, ap}
use Rattle.std.proofs.lemmas.Bool.{false≢true}
use Rattle.std.proofs.lemmas.List.{take_all}
use Rattle.bundle_rules.specs.Ordinals.{ordinals}
use Rattle.bundle_rules.specs.Bundles.{sections_of}
use Rattle.bundle_rules.proofs.Bundled.{sections_of-IsBundle}
use Rattle.bundle_rules.proofs.Ends.{ascending-next}
use Rattle.bundle_rules.proofs.bundle.Bundle.of.Goals as goal

pub returns-then-not-is_below-clause-some : goal.returns-then-not-is_below-clause-some
returns-then-not-is_below-clause-some c = (
  (λ e. absurd (false≢true e)),
  (λ is. c.if-not-is_below.ensures.1
      (rw c.loop-section.invariant (ascending-next c.args.sections.now c.loop-section.section-index _ c.loop-section-test.true is.ascending))),
)

pub returns-clause-some : goal.returns-clause-some
returns-clause-some c =
    let whole : sections_of c.loop-section.bundle ≡ ordinals c.args.sections.now =
    c.loop-section.invariant ∙ ap ordinals (take_all _ _ c.loop-section-test.false) in
    ((λ _. rw (← whole) (sections_of-IsBundle c.loop-section.bundle)), (λ _. refl))
