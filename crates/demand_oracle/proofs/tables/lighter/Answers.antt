use Rattle.std.proofs.Common.{◌≡◌, sym, ◌∙◌, arith}
use Rattle.std.proofs.lemmas.Bool.{true≢false}
use Rattle.bundle_rules.specs.Existence.Places.{credits_at-is}
use Rattle.bundle_rules.specs.Menus.{credits_at}
use Rattle.demand_oracle.proofs.Hoping.{allowed_read}
use Rattle.demand_oracle.proofs.tables.lighter.Goals as goal

pub returns-then-not-has-clause-lightest : goal.returns-then-not-has-clause-lightest
returns-then-not-has-clause-lightest c on =
    absurd
    (true≢false
    (sym on ∙ allowed_read c.args.spot.now.offer.now.menu.now c.args.spot.now.offer.now.prices.now c.args.spot.now.offer.now.budget.0 c.args.spot.now.offer.now.allowed.now c.args.spot.now.place c.rated-rated.result.now c.rated-rated.ensures.value
    ∙ sym c.has.ensures ∙ c.if-not-has.true))

pub returns-clause-lightest : goal.returns-clause-lightest
returns-clause-lightest c on =
    let is : credits_at c.args.spot.now.offer.now.menu.now.places c.args.spot.now.place ≡ c.rated-rated.result.now.credits =
    credits_at-is c.args.spot.now.offer.now.menu.now.places c.args.spot.now.place c.rated-rated.result.now c.rated-rated.ensures.value in
    omega arith
