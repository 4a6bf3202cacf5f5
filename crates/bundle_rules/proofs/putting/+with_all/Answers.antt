use Rattle.bundle_rules.specs.Bundles.{sections_of}
use Rattle.plain_facts.proofs.Lists.{first_rest}
use Rattle.bundle_rules.proofs.Puts.{next_of_all}
use Rattle.bundle_rules.proofs.putting.+with_all.Goals as goal

pub with-requires-clause-above : goal.with-requires-clause-above
with-requires-clause-above t c =
    next_of_all (sections_of c.args.front) c.args.sections.now _ _ (first_rest c.args.sections.now record { 0 = 0 } c.in-len1-up.len_at_least) c.requires.above
