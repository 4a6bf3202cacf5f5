use Rattle.std.proofs.Common.{◌≡◌, ◌∙◌, ◌+ℤ◌, pos, to_z, of_z, w32, ap, sym, arith}
use Rattle.std.proofs.lemmas.Int.{ints}
use Rattle.plain_facts.proofs.Lists.{first_rest}
use Rattle.bundle_rules.specs.Wishes.{utility}
use Rattle.bundle_rules.specs.Menus.{by_place}
use Rattle.bundle_rules.specs.Existence.Places.{rating_at-is}
use Rattle.bundle_rules.proofs.preferences.+utility_of.Goals as goal

pub returns-in-len1-up-clause-value : goal.returns-in-len1-up-clause-value
unfolding by_place
returns-in-len1-up-clause-value t c =
    let one = rating_at-is c.args.picks.now.menu.now.places _ c.rated.result.now c.rated.ensures.value in
    let sum : to_z w32
    (of_z w32
    (to_z w32 (of_z w32 (to_z w32 (of_z w32 c.from.result) +ℤ to_z w32 (of_z w32 c.adjustments_of.result)))
    +ℤ to_z w32 (of_z w32 c.utility_of.result)))
    ≡ (pos c.rated.result.now.rating +ℤ c.adjustments_of.result) +ℤ c.utility_of.result =
    omega (arith, ints, c.from.ensures) in
    sum
    ∙ rw (c.adjustments_of.ensures.value, c.utility_of.ensures.value, ← one)
    (sym (ap (utility (by_place c.args.picks.now.menu.now)) (first_rest c.args.picks.now.places.now 0 c.in-len1-up.len_at_least)))
