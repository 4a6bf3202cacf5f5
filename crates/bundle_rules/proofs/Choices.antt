-- Choices at given prices.
use Rattle.std.proofs.Common.{◌≡◌, ◌<◌, ℕ, zero, suc, true, List, [], ◌∷◌, length, arith, subst}
use Rattle.market_units.specs.declared.units.Tokens.{Tokens}
use Rattle.bundle_rules.specs.declared.menu.Rated.{Rated}
use Rattle.market_units.specs.Members.{has}
use Rattle.bundle_rules.specs.Wishes.{AllRated}
use Rattle.bundle_rules.specs.Menus.{MenuData, wishes_of, place_in, section_at, IsMenu}
use Rattle.bundle_rules.specs.Demand.{IsPriced, ArePriced, HasPrices}
use Rattle.bundle_rules.specs.Existence.Places.{section_at-place_in, section_at-low}
use Rattle.bundle_rules.proofs.Feasibility.{place_of_rated}

priced_at : (places : List Rated) (prices : List Tokens) (k : ℕ) → ArePriced places prices → k < length places → IsPriced prices (section_at places k)
priced_at [] prices k all low = absurd (omega arith)
priced_at (r ∷ rs) prices zero all low = all 0 r (omega arith)
priced_at (r ∷ rs) prices (suc k) all low = priced_at rs prices k (λ i d h. all (suc i) d (let g : suc i < suc (length rs) = omega arith in g)) (omega arith)

-- a rated section has a price
pub priced : (m : MenuData) (prices : List Tokens) (ss : List ℕ) → HasPrices m prices → AllRated (wishes_of m) ss → (s : ℕ) → has ss s ≡ true
    → IsPriced prices s
priced m prices ss has_prices rated s is =
    let low = place_of_rated m ss rated s is in
    subst (IsPriced prices) (section_at-place_in m.places s low) (priced_at m.places prices (place_in m.places s) has_prices low)

-- and is below 400
pub below_400 : (m : MenuData) (ss : List ℕ) → IsMenu m → AllRated (wishes_of m) ss → (s : ℕ) → has ss s ≡ true → s < 400
below_400 m ss menu rated s is =
    let low = place_of_rated m ss rated s is in
    subst (λ t. t < 400) (section_at-place_in m.places s low) (section_at-low m.places (place_in m.places s) menu.places.each low)
