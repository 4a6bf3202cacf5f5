-- What a student takes at given prices.
use Rattle.std.specs.Prelude.{ℕ, ◌<◌, ◌≤◌, ◌≡◌, ◌≢◌, Bool, true, List, All, length, slice_index, map}
use Rattle.market_units.specs.declared.limits.TheConstants.{MAX_PRICE}
use Rattle.market_units.specs.declared.units.Tokens.{Tokens}
use Rattle.bundle_rules.specs.declared.menu.Rated.{Rated}
use Rattle.market_units.specs.Totals.{total}
use Rattle.market_units.specs.Members.{has}
use Rattle.bundle_rules.specs.Wishes.{Wishes, IsFeasible}
use Rattle.bundle_rules.specs.Menus.{MenuData}
use Rattle.bundle_rules.specs.Preferences.{IsPreferred}

-- the price of each section in a list of prices by ordinal
abbrev pub price_in : List Tokens → ℕ → ℕ
price_in prices = slice_index (map (λ price. price.0) prices)

-- a section has a price, of at most 1,000,001
pub record IsPriced (prices : List Tokens) (s : ℕ) : Type 0 where
  pub listed : s < length prices
  pub high : price_in prices s ≤ MAX_PRICE

-- each section at these places has a price
abbrev pub ArePriced : List Rated → List Tokens → Type 0
ArePriced places prices = All (λ rated. IsPriced prices rated.section.0) places

-- each section of the menu has a price
abbrev pub HasPrices : MenuData → List Tokens → Type 0
HasPrices menu prices = ArePriced menu.places prices

-- a feasible bundle of allowed sections whose prices sum to at most the budget
pub record IsChoice (wishes : Wishes) (price : ℕ → ℕ) (budget : ℕ) (allowed : ℕ → Bool)
    (bundle : List ℕ) : Type 0 where
  pub feasible : IsFeasible wishes bundle
  pub affordable : total price bundle ≤ budget
  pub within : (s : ℕ) → has bundle s ≡ true → allowed s ≡ true

-- the choice that is preferred to every other one
pub record IsBest (wishes : Wishes) (price : ℕ → ℕ) (budget : ℕ) (allowed : ℕ → Bool)
    (bundle : List ℕ) : Type 0 where
  pub choice : IsChoice wishes price budget allowed bundle
  pub preferred : (other : List ℕ) → IsChoice wishes price budget allowed other → other ≢ bundle
      → IsPreferred wishes bundle other

-- some set is the best, and each that is the best is that one
abbrev pub HasOneBest : Wishes → (ℕ → ℕ) → ℕ → (ℕ → Bool) → Type 0
HasOneBest wishes price budget allowed =
    (best : List ℕ) × IsBest wishes price budget allowed best
    × ((other : List ℕ) → IsBest wishes price budget allowed other → other ≡ best)
