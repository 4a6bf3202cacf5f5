use Rattle.std.proofs.Common.{ap, subst, ◌∙◌}
use Rattle.bundle_rules.specs.Bundles.{sections_of}
use Rattle.bundle_rules.specs.Menus.{wishes_of}
use Rattle.bundle_rules.specs.Ordinals.{ordinals}
use Rattle.fairness_audit.specs.Envy.{seen}
use Rattle.fairness_audit.specs.Searching.{IsBestOfThese}
use Rattle.fairness_audit.proofs.Seeing.{is_seen}
use Rattle.fairness_audit.proofs.sight.best_out_of.Goals as goal

pub returns-clause-value : goal.returns-clause-value
returns-clause-value c =
    is_seen c.args.menu.now (ordinals c.sections.result.now) (sections_of c.best_from.result)
    (subst (λ front. IsBestOfThese (wishes_of c.args.menu.now) front (ordinals c.sections.result.now) (sections_of c.best_from.result)) c.empty.ensures
    c.best_from.ensures)
    ∙ ap (seen c.args.menu.now) c.sections.ensures.value
