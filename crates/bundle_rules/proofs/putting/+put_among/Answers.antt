use Rattle.bundle_rules.specs.Bundles.{sections_of}
use Rattle.plain_facts.proofs.Lists.{first_rest}
use Rattle.bundle_rules.proofs.Puts.{put_here, put_there}
use Rattle.bundle_rules.proofs.putting.+put_among.Goals as goal

pub with-requires-then-section-first-clause-above : goal.with-requires-then-section-first-clause-above
with-requires-then-section-first-clause-above t c =
    put_here (sections_of c.args.front) c.args.section.0 c.args.sections.now _ _
    (first_rest c.args.sections.now record { 0 = 0 } c.in-len1-up.len_at_least) c.if-section-first.true c.requires.above

pub with-requires-in-len1-up-clause-above : goal.with-requires-in-len1-up-clause-above
with-requires-in-len1-up-clause-above t c =
    put_there (sections_of c.args.front) c.args.section.0 c.args.sections.now _ _
    (first_rest c.args.sections.now record { 0 = 0 } c.in-len1-up.len_at_least) c.if-section-first.false c.requires.above
