use Rattle.std.proofs.Common.{◌≡◌, ◌∙◌, ◌+ℤ◌, to_z, of_z, w32, ap, sym, arith}
use Rattle.std.proofs.lemmas.Int.{ints}
use Rattle.plain_facts.proofs.Lists.{first_rest}
use Rattle.bundle_rules.specs.Wishes.{adjustments}
use Rattle.bundle_rules.specs.Menus.{by_place}
use Rattle.bundle_rules.proofs.preferences.+adjustments_of.Goals as goal

pub returns-in-len1-up-clause-value : goal.returns-in-len1-up-clause-value
unfolding by_place
returns-in-len1-up-clause-value t c =
    let sum : to_z w32 (of_z w32 (to_z w32 (of_z w32 c.from.result) +ℤ to_z w32 (of_z w32 c.adjustments_of.result)))
    ≡ c.adjustment.result +ℤ c.adjustments_of.result =
    omega (arith, ints, c.from.ensures) in
    sum
    ∙ rw (c.adjustment.ensures.value, c.adjustments_of.ensures.value)
    (sym (ap (adjustments (by_place c.args.others.now.menu.now) c.args.place) (first_rest c.args.others.now.places.now 0 c.in-len1-up.len_at_least)))
