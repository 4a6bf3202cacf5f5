use Rattle.std.proofs.Common.{◌≡◌, ◌∙◌, ◌+ℤ◌, to_z, of_z, w32, ap, sym, arith}
use Rattle.std.proofs.lemmas.Int.{ints}
use Rattle.plain_facts.proofs.Lists.{first_rest}
use Rattle.market_units.specs.Totals.{signed_total}
use Rattle.bundle_rules.specs.Menus.{adjustment_in}
use Rattle.bundle_bounds.proofs.places.+adjustments_with.Goals as goal

pub returns-in-len1-up-clause-value : goal.returns-in-len1-up-clause-value
returns-in-len1-up-clause-value t c =
    let sum : to_z w32 (of_z w32 (to_z w32 (of_z w32 c.from.result) +ℤ to_z w32 (of_z w32 c.adjustments_with.result)))
    ≡ c.adjustment.result +ℤ c.adjustments_with.result =
    omega (arith, ints, c.from.ensures) in
    sum
    ∙ rw (c.adjustment.ensures.value, c.adjustments_with.ensures.value)
    (sym
    (ap (signed_total (λ other. adjustment_in c.args.menu.now.pairs other c.args.place))
    (first_rest c.args.chosen.now 0 c.in-len1-up.len_at_least)))
