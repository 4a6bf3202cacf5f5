-- The laws of preference and of demand.
use Rattle.std.specs.Prelude.{ℕ, ◌<◌, ◌≡◌, ◌≢◌, ◌↔◌, ◌⊎◌, Bool, true, List, [], ◌∷◌, length}
use Rattle.market_units.specs.Subsets.{chosen}
use Rattle.bundle_rules.specs.declared.bundle.Bundle.{Bundle}
use Rattle.bundle_rules.specs.Bundles.{sections_of}
use Rattle.market_units.specs.Members.{has}
use Rattle.bundle_rules.specs.Sets.{IsAscending}
use Rattle.bundle_rules.specs.Ahead.{IsAhead, is_ahead}
use Rattle.bundle_rules.specs.Wishes.{Wishes, AllRated, utility}
use Rattle.bundle_rules.specs.Agreement.{Agrees}
use Rattle.bundle_rules.specs.Preferences.{IsPreferred}
use Rattle.bundle_rules.specs.Demand.{IsChoice, IsBest, HasOneBest}
use Rattle.bundle_rules.specs.Given.{IsBestOf, IsBestWith, SomeHas}
use Rattle.bundle_rules.specs.Best.{best}
use Rattle.bundle_rules.specs.Menus.{MenuData, IsMenu, by_place, wishes_of}
use Rattle.bundle_rules.specs.Places.{bits_of, menu_sections, menu_places, AreBestBits}

-- no bundle is preferred to itself, what is preferred to a preferred one is preferred, and of two
-- different sets one is preferred
pub record OrdersStrictly (wishes : Wishes) : Type 0 where
  pub irreflexive : (a : List ℕ) → ¬ IsPreferred wishes a a
  pub transitive : (a b c : List ℕ) → IsPreferred wishes a b → IsPreferred wishes b c
      → IsPreferred wishes a c
  pub total : (a b : List ℕ) → IsAscending a → IsAscending b → a ≢ b
      → IsPreferred wishes a b ⊎ IsPreferred wishes b a

-- preference orders the sets of sections strictly, whatever the wishes
abbrev pub StrictPreference : Type 0
StrictPreference = (wishes : Wishes) → OrdersStrictly wishes

-- exactly one set is the best, for every menu, prices, budget and allowed set
abbrev pub UniqueDemand : Type 0
UniqueDemand =
    (menu : MenuData) (price : ℕ → ℕ) (budget : ℕ) (allowed : ℕ → Bool)
    → HasOneBest (wishes_of menu) price budget allowed

-- the value `best` is the best bundle, and whatever is the best is that value
pub record IsTheBest (menu : MenuData) (price : ℕ → ℕ) (budget : ℕ)
    (allowed : ℕ → Bool) : Type 0 where
  pub itself : IsBest (wishes_of menu) price budget allowed (best menu price budget allowed)
  pub only : (other : List ℕ) → IsBest (wishes_of menu) price budget allowed other
      → other ≡ best menu price budget allowed

abbrev pub BestIsTheBest : Type 0
BestIsTheBest =
    (menu : MenuData) (price : ℕ → ℕ) (budget : ℕ) (allowed : ℕ → Bool)
    → IsTheBest menu price budget allowed

-- two bundles of equal sections are equal
abbrev pub EqualSectionsEqualBundles : Type 0
EqualSectionsEqualBundles = (a b : Bundle) → sections_of a ≡ sections_of b → a ≡ b

-- a set of rated sections is what its bits choose, and the bits are those of what they choose
pub record AreItsBits (menu : MenuData) : Type 0 where
  pub set : (bundle : List ℕ) → IsAscending bundle → AllRated (wishes_of menu) bundle
      → chosen (bits_of (menu_sections menu) bundle) (menu_sections menu) ≡ bundle
  pub bits : (bits : List Bool) → length bits ≡ length (menu_sections menu)
      → bits_of (menu_sections menu) (chosen bits (menu_sections menu)) ≡ bits
  pub utility : (bits : List Bool)
      → utility (wishes_of menu) (chosen bits (menu_sections menu))
      ≡ utility (by_place menu) (chosen bits (menu_places menu))

abbrev pub SetsAreBits : Type 0
SetsAreBits = (menu : MenuData) → IsMenu menu → AreItsBits menu

-- the best bundle is the one whose bits are the best
abbrev pub BestByBits : Type 0
BestByBits =
    (menu : MenuData) (price : ℕ → ℕ) (budget : ℕ) (allowed : ℕ → Bool) (bits : List Bool)
    → IsMenu menu → length bits ≡ length (menu_sections menu)
    → AreBestBits (wishes_of menu) (menu_sections menu) price budget allowed bits
    ↔ IsBest (wishes_of menu) price budget allowed (chosen bits (menu_sections menu))

-- wishes that agree on what is rated have the same best bundle
abbrev pub BestByAgreement : Type 0
BestByAgreement =
    (a b : Wishes) → Agrees a b
    → (price : ℕ → ℕ) (budget : ℕ) (allowed : ℕ → Bool) (bundle : List ℕ)
    → IsBest a price budget allowed bundle ↔ IsBest b price budget allowed bundle

-- where every bundle is wanted, the best of the wanted ones is the best
abbrev pub BestOfAll : Type 0
BestOfAll =
    (menu : MenuData) (price : ℕ → ℕ) (budget : ℕ) (allowed : ℕ → Bool) (bundle : List ℕ)
    → IsBestOf (wishes_of menu) price budget allowed (λ b. true) bundle
    ↔ IsBest (wishes_of menu) price budget allowed bundle

-- where some choice has the section, exactly one bundle is the best with it; and some choice has it
-- exactly where the section alone is a choice
pub record HasBestWith (menu : MenuData) (price : ℕ → ℕ) (budget : ℕ) (allowed : ℕ → Bool)
    (section : ℕ) : Type 0 where
  pub one : SomeHas (wishes_of menu) price budget allowed section
      → (best : List ℕ) × IsBestWith (wishes_of menu) price budget allowed section best
  pub only : (a b : List ℕ) → IsBestWith (wishes_of menu) price budget allowed section a
      → IsBestWith (wishes_of menu) price budget allowed section b → a ≡ b
  pub alone : SomeHas (wishes_of menu) price budget allowed section
      ↔ IsChoice (wishes_of menu) price budget allowed (section ∷ [])

abbrev pub BestWithASection : Type 0
BestWithASection =
    (menu : MenuData) (price : ℕ → ℕ) (budget : ℕ) (allowed : ℕ → Bool) (section : ℕ)
    → HasBestWith menu price budget allowed section

-- of ascending lists, all of the second below the limit, the test tells whether the first is ahead
abbrev pub AheadIsTheFirstDifference : Type 0
AheadIsTheFirstDifference =
    (limit : ℕ) (champion chosen : List ℕ) → IsAscending champion → IsAscending chosen
    → ((c : ℕ) → has chosen c ≡ true → c < limit)
    → is_ahead limit champion chosen ≡ true ↔ IsAhead limit champion chosen
