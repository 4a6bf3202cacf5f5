use Rattle.std.proofs.Common.{ap, sym}
use Rattle.plain_facts.proofs.Lists.{first_rest}
use Rattle.market_units.specs.Totals.{total}
use Rattle.bundle_rules.specs.Menus.{by_place}
use Rattle.bundle_rules.specs.Existence.Places.{credits_at-is}
use Rattle.bundle_rules.proofs.preferences.+credits_of.Goals as goal

pub returns-in-len1-up-clause-value : goal.returns-in-len1-up-clause-value
unfolding by_place
returns-in-len1-up-clause-value t c =
    let one = credits_at-is c.args.picks.now.menu.now.places _ c.rated.result.now c.rated.ensures.value in
    rw (c.from.ensures, c.credits_of.ensures.value, ← one)
    (sym (ap (total (by_place c.args.picks.now.menu.now).credits) (first_rest c.args.picks.now.places.now 0 c.in-len1-up.len_at_least)))
