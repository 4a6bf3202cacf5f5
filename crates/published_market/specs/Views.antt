-- What best bundles, and what they are the best of, are seen as.
use Rattle.std.specs.Prelude.{ℕ, List}
use Rattle.bundle_rules.specs.Bundles.{sections_of}
use Rattle.bundle_bounds.specs.Offers.{OfferData, offer_of}
use Rattle.published_market.specs.declared.best.Best as declared

-- what a bundle is the best of
abbrev pub offer_of_best : declared.Best → OfferData
offer_of_best one = offer_of one.menu.now one.prices.now one.budget.0 one.allowed.now

-- the bundle
abbrev pub bundle_in : declared.Best → List ℕ
bundle_in one = sections_of one.bundle.now
