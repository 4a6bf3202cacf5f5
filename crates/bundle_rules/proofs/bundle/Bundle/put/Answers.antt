use Rattle.bundle_rules.specs.Bundles.{sections_of}
use Rattle.bundle_rules.proofs.Puts.{IsAscending-put}
use Rattle.bundle_rules.proofs.bundle.Bundle.put.Goals as goal

pub put_among-requires-clause-above : goal.put_among-requires-clause-above
put_among-requires-clause-above c =
    rw (c.empty.ensures, c.sections.ensures.value)
    (IsAscending-put c.args.section.0 (sections_of c.args.self) c.sections.ensures.bundle.ascending c.requires.other)
