use Rattle.std.proofs.Common.{◌∙◌, refl}
use Rattle.bundle_rules.proofs.EqualBundles.{pointwise-ordinals}
use Rattle.bundle_rules.proofs.bundle.BundlePartialEq.eq.Goals as goal

pub returns : goal.returns
returns c =
    c.eq.ensures ∙ pointwise-ordinals _ (λ a b. refl) c.sections.result.now c.sections-2.result.now
    ∙ rw (c.sections.ensures.value, c.sections-2.ensures.value) refl
