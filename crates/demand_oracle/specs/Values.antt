-- The most that places can add to a bundle.
use Rattle.std.specs.Prelude.{ℕ, ◌+◌, ◌*◌, ◌-◌, ◌/◌, ◌^◌, if◌then◌else◌, length}
use Rattle.market_units.specs.Totals.{total}
use Rattle.bundle_rules.specs.Menus.{adjustment_in, rating_at, credits_at}
use Rattle.bundle_rules.specs.Places.{places_from}
use Rattle.bundle_bounds.specs.Offers.{OfferData, price_at, allowed_at}
use Rattle.bundle_bounds.specs.Opens.{above_zero}
use Rattle.demand_oracle.specs.declared.multipliers.Multipliers.{Multipliers}

-- what the adjustment of a place with another can add: nothing where the other is not allowed
abbrev pub hope : OfferData → ℕ → ℕ → ℕ
hope offer place other =
    if allowed_at offer other then above_zero (adjustment_in offer.menu.pairs place other) else 0

-- what the adjustments of a place with all places from k on can add
abbrev pub hopes_from : OfferData → ℕ → ℕ → ℕ
hopes_from offer k place = total (hope offer place) (places_from k (length offer.menu.places - k))

-- the most that a place can add: its rating, and what its adjustments with later places can
abbrev pub most_added : OfferData → ℕ → ℕ
most_added offer place = rating_at offer.menu.places place + hopes_from offer (place + 1) place

-- what is left of a million times the most that a place can add, where its price and its credits
-- are paid at these multipliers
abbrev pub value : OfferData → Multipliers → ℕ → ℕ
value offer multipliers place =
    1000000 * most_added offer place
    - (multipliers.money * price_at offer place + multipliers.credits
    * credits_at offer.menu.places place)

-- the price of a place in whole units, each of which is a power of two of tokens
abbrev pub units_at : OfferData → ℕ → ℕ → ℕ
units_at offer shift place = price_at offer place / 2 ^ shift
