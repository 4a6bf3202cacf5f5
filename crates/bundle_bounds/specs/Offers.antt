-- What a student may choose from.
use Rattle.std.specs.Prelude.{ℕ, ◌<◌, Bool, List, length, map, All}
use Rattle.std.specs.Ordering.{nat_cmp}
use Rattle.std.specs.FinSet as set
use Rattle.market_units.specs.declared.units.Tokens.{Tokens}
use Rattle.bundle_rules.specs.Demand.{price_in}
use Rattle.bundle_rules.specs.Menus.{MenuData, section_at, place_in}

-- a menu at given prices, with a budget and the allowed sections
pub record OfferData : Type 0 where
  pub menu : MenuData
  pub price : ℕ → ℕ
  pub budget : ℕ
  pub allowed : ℕ → Bool

-- the price of the section at a place
abbrev pub price_at : OfferData → ℕ → ℕ
price_at offer place = offer.price (section_at offer.menu.places place)

-- whether the section at a place is allowed
abbrev pub allowed_at : OfferData → ℕ → Bool
allowed_at offer place = offer.allowed (section_at offer.menu.places place)

-- the places of these sections
abbrev pub places_of : MenuData → List ℕ → List ℕ
places_of menu sections = map (place_in menu.places) sections

-- the offer of a menu, its prices, a budget and an allowed set
abbrev pub offer_of : MenuData → List Tokens → ℕ → set.FinSet nat_cmp → OfferData
offer_of menu prices budget allowed =
    record { menu = menu; price = price_in prices; budget = budget; allowed = set.contains allowed }

-- each of these places is on the menu
abbrev pub AreOnMenu : MenuData → List ℕ → Type 0
AreOnMenu menu chosen = All (λ place. place < length menu.places) chosen
