use Rattle.std.proofs.Common.{◌∙◌, ap}
use Rattle.market_units.specs.Members.{has}
use Rattle.bundle_rules.proofs.bundle.Bundle.has.Goals as goal

pub returns : goal.returns
returns c = c.is_among.ensures ∙ ap (λ xs. has xs c.args.section.0) c.sections.ensures.value
