use Rattle.bundle_rules.proofs.Ends.{below_the_last}
use Rattle.bundle_rules.proofs.bundle.Bundle.is_below.Goals as goal

pub returns-in-Some : goal.returns-in-Some
returns-in-Some c =
    rw (← c.sections.ensures.value)
    (below_the_last c.sections.result.now c.in-Some.last.now c.args.section.0 c.in-Some.ensures.value
    (rw c.sections.ensures.value c.sections.ensures.bundle.ascending))
