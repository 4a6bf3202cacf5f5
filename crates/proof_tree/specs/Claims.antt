-- What a claim says, as plain data.
use Rattle.std.specs.Prelude.{ℕ, List}
use Rattle.bundle_rules.specs.Bundles.{sections_of}
use Rattle.bundle_bounds.specs.Offers.{OfferData, places_of}
use Rattle.bundle_bounds.specs.Views.{data_of}
use Rattle.proof_tree.specs.declared.claim.Claim.{Claim}

-- the offer of which it is claimed
abbrev pub offer_in : Claim → OfferData
offer_in claim = data_of claim.offer.now

-- the sections of its champion
abbrev pub champion_in : Claim → List ℕ
champion_in claim = sections_of claim.champion.now

-- the places of the champion of a claim
abbrev pub champions_places : Claim → List ℕ
champions_places claim = places_of (offer_in claim).menu (champion_in claim)
