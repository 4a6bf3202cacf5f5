use Rattle.std.proofs.Common.{◌≡◌, ◌∙◌, sym, refl}
use Rattle.bundle_rules.specs.Menus.{rating_at, credits_at}
use Rattle.bundle_rules.specs.Existence.Places.{rating_at-is, credits_at-is}
use Rattle.bundle_bounds.specs.Views.{data_of}
use Rattle.bundle_bounds.specs.Offers.{price_at}
use Rattle.demand_oracle.proofs.tables.value_at.Goals as goal

pub returns-clause-value : goal.returns-clause-value
returns-clause-value c is =
    let menu = c.args.spot.now.offer.now.menu.now in
    let offer = data_of c.args.spot.now.offer.now in
    let rating : c.from.result ≡ rating_at menu.places c.args.spot.now.place =
    c.from.ensures ∙ sym (rating_at-is menu.places c.args.spot.now.place c.rated-rated.result.now c.rated-rated.ensures.value) in
    let credits : c.from-4.result ≡ credits_at menu.places c.args.spot.now.place =
    c.from-4.ensures ∙ sym (credits_at-is menu.places c.args.spot.now.place c.rated-rated.result.now c.rated-rated.ensures.value) in
    let price : c.from-3.result ≡ price_at offer c.args.spot.now.place = c.from-3.ensures ∙ c.price_of_place-cost.ensures.value in
    c.saturating_sub.ensures ∙ rw (rating, c.from-2.ensures, is, price, credits) refl
