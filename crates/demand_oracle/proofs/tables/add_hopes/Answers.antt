use Rattle.std.proofs.Common.{◌≡◌, ◌≤◌, ◌+◌, ℕ, slice_index, sym, ◌∙◌, arith}
use Rattle.std.proofs.lemmas.Nat.Bits.{shr_and_one}
use Rattle.bundle_rules.specs.Menus.{adjustment_in}
use Rattle.bundle_bounds.specs.Views.{data_of}
use Rattle.bundle_bounds.specs.Opens.{above_zero}
use Rattle.demand_oracle.specs.Values.{hopes_from}
use Rattle.demand_oracle.proofs.Hoping.{hopes_not_allowed, hopes_not_raised, hopes_allowed, hopes_from-high, allowed_read}
use Rattle.demand_oracle.proofs.tables.add_hopes.Goals as goal

pub returns-then-not-has : goal.returns-then-not-has
returns-then-not-has c earlier low =
    let offer = data_of c.args.spot.now.offer.now in
    let off =
    allowed_read c.args.spot.now.offer.now.menu.now c.args.spot.now.offer.now.prices.now c.args.spot.now.offer.now.budget.0 c.args.spot.now.offer.now.allowed.now c.args.spot.now.place c.rated.result.now c.rated.ensures.value ∙ sym c.has.ensures
    ∙ c.if-not-has.true in
    c.requires.hopes earlier (omega arith) ∙ sym (hopes_not_allowed offer c.args.spot.now.place earlier c.args.spot.now.on_menu off)

pub returns-then-raised-spot-eq0 : goal.returns-then-raised-spot-eq0
returns-then-raised-spot-eq0 c earlier low =
    let offer = data_of c.args.spot.now.offer.now in
    let k : ℕ = c.args.spot.now.place in
    let clear = sym (shr_and_one c.args.raised k) ∙ c.if-raised-spot-eq0.true in
    c.requires.hopes earlier (omega arith) ∙ sym (hopes_not_raised offer k earlier c.args.spot.now.on_menu (c.requires.raised earlier k low clear))

pub overflow_add-hopes : goal.overflow_add-hopes
overflow_add-hopes c =
    let offer = data_of c.args.spot.now.offer.now in
    let at : ℕ = c.from.result in
    let kept : slice_index c.loop-earlier.hopes at ≡ slice_index c.args.hopes.now at = c.loop-earlier.invariant.rest at (omega (arith, c.from.ensures)) in
    let read : slice_index c.args.hopes.now at ≡ hopes_from offer (c.args.spot.now.place + 1) at = c.requires.hopes at (omega arith) in
    let high : hopes_from offer (c.args.spot.now.place + 1) at ≤ 12000 = hopes_from-high offer c.len.ensures.menu (c.args.spot.now.place + 1) at in
    omega arith

pub returns : goal.returns
returns c earlier low =
    let offer = data_of c.args.spot.now.offer.now in
    let on =
    allowed_read c.args.spot.now.offer.now.menu.now c.args.spot.now.offer.now.prices.now c.args.spot.now.offer.now.budget.0 c.args.spot.now.offer.now.allowed.now c.args.spot.now.place c.rated.result.now c.rated.ensures.value ∙ sym c.has.ensures
    ∙ c.if-not-has.false in
    let filled : slice_index c.loop-earlier.hopes earlier
    ≡ slice_index c.args.hopes.now earlier + above_zero (adjustment_in c.args.spot.now.offer.now.menu.now.pairs earlier c.args.spot.now.place) =
    c.loop-earlier.invariant.filled earlier (omega arith) in
    let read : slice_index c.args.hopes.now earlier ≡ hopes_from offer (c.args.spot.now.place + 1) earlier = c.requires.hopes earlier (omega arith) in
    let whole : hopes_from offer c.args.spot.now.place earlier
    ≡ above_zero (adjustment_in c.args.spot.now.offer.now.menu.now.pairs earlier c.args.spot.now.place) + hopes_from offer (c.args.spot.now.place + 1) earlier =
    hopes_allowed offer c.args.spot.now.place earlier c.args.spot.now.on_menu on in
    omega arith
