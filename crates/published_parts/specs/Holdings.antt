-- What students hold, from the bundles of the second stage on.
use Rattle.std.specs.Prelude.{ℕ, List, [], ◌∷◌, length, map, slice_set, zip}
use Rattle.market_units.specs.declared.units.Tokens.{Tokens}
use Rattle.bundle_rules.specs.Places.{places_from}
use Rattle.demand_api.specs.Crowds.{holders}
use Rattle.held_seats.specs.Choices.{AreHeldWithin}
use Rattle.market_certificate.specs.Publications.{Proved, ProvedTurn, Publication}
use Rattle.published_parts.specs.Markets.{Market, seats_in}

-- amounts as prices
abbrev pub tokens : List ℕ → List Tokens
tokens amounts = map (λ n. record { 0 = n }) amounts

-- the bundles at the prices of the second stage, in file order
abbrev pub demanded : Publication → List (List ℕ)
demanded p = map (λ (proved : Proved). proved.bundle) p.bundles

-- what all students hold after published turns, of which each gives its student its bundle
abbrev pub held_after : List (List ℕ) → List ProvedTurn → List (List ℕ)
held_after held [] = held
held_after held (turn ∷ turns) = held_after (slice_set held turn.student turn.bundle) turns

-- no more of these bundles have a section than it has seats
abbrev pub AreWithinSeats : Market → List (List ℕ) → Type 0
AreWithinSeats market bundles =
    AreHeldWithin (length market.catalog.sections) (seats_in market) bundles

-- of each section how many of these bundles have it, and its seats
abbrev pub used_of : List ℕ → List (List ℕ) → List (ℕ × ℕ)
used_of seats bundles = zip (map (λ s. holders s bundles) (places_from 0 (length seats))) seats
