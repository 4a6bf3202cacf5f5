use Rattle.bundle_rules.proofs.Ascents.{ascends}
use Rattle.bundle_rules.proofs.conditions.+are_ascending.Goals as goal

pub returns-then-first-second : goal.returns-then-first-second
returns-then-first-second t c =
    ascends c.args.places.now c.in-len1-up.len_at_least c.in-len1-up-more.len_at_least c.if-first-second.true c.are_ascending.result c.are_ascending.ensures
