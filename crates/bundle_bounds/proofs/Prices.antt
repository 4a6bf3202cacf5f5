-- The price at a place.
use Rattle.std.proofs.Common.{◌≡◌, ℕ, ◌<◌, ◌≤◌, ◌∙◌, List, length, get_or, ap, sym, subst, Some}
use Rattle.std.specs.Prelude.{slice_get}
use Rattle.std.proofs.lemmas.List.{get_or-map}
use Rattle.std.proofs.lemmas.Option.{get_or_from_slice_get}
use Rattle.market_units.specs.declared.units.Tokens.{Tokens}
use Rattle.bundle_rules.specs.declared.menu.Rated.{Rated}
use Rattle.bundle_rules.specs.Demand.{price_in, IsPriced, HasPrices}
use Rattle.bundle_rules.specs.Menus.{MenuData, section_at}
use Rattle.bundle_rules.specs.Existence.Places.{section_at-is}

pub record ReadsPrice (menu : MenuData) (prices : List Tokens) (place i : ℕ) : Type 0 where
  pub within : i < length prices
  pub value : (get_or prices i (record { 0 = 0 })).0 ≡ price_in prices (section_at menu.places place)
  pub high : (get_or prices i (record { 0 = 0 })).0 ≤ 1000001

pub price_read : (menu : MenuData) (prices : List Tokens) (place i : ℕ) (rated : Rated) → HasPrices menu prices → place < length menu.places
    → slice_get menu.places place ≡ Some rated → i ≡ rated.section.0 → ReadsPrice menu prices place i
price_read menu prices place i rated has on is at_ =
    let here : section_at menu.places place ≡ i = section_at-is menu.places place rated is ∙ sym at_ in
    let priced : IsPriced prices rated.section.0 =
    subst (λ (r : Rated). IsPriced prices r.section.0) (get_or_from_slice_get menu.places place rated rated is) (has place rated on) in
    let low : i < length prices = rw at_ priced.listed in
    let high : price_in prices i ≤ 1000001 = rw at_ priced.high in
    let read : price_in prices i ≡ (get_or prices i (record { 0 = 0 })).0 = get_or-map (λ price. price.0) prices i (record { 0 = 0 }) 0 low in
    record { within = low; value = sym read ∙ ap (price_in prices) (sym here); high = rw read at high }
