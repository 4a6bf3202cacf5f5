-- What an offer is seen as.
use Rattle.bundle_bounds.specs.declared.offer.Offer.{Offer}
use Rattle.bundle_bounds.specs.Offers.{OfferData, offer_of}

-- an offer as plain data
abbrev pub data_of : Offer → OfferData
data_of offer = offer_of offer.menu.now offer.prices.now offer.budget.0 offer.allowed.now
