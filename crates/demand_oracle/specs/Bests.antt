-- The best bundles of a student, in order of preference.
use Rattle.std.specs.Prelude.{ℕ, ◌<◌, ◌≤◌, ◌≡◌, ◌⊎◌, ⊤, Bool, List, [], ◌∷◌, length}
use Rattle.market_units.specs.Totals.{total}
use Rattle.bundle_rules.specs.Wishes.{Wishes}
use Rattle.bundle_rules.specs.Preferences.{IsPreferred}
use Rattle.bundle_rules.specs.Demand.{IsChoice}

-- the bundle is one of these
abbrev pub IsAmong : List ℕ → List (List ℕ) → Type 0
IsAmong bundle [] = ⊥
IsAmong bundle (first ∷ others) = (bundle ≡ first) ⊎ IsAmong bundle others

-- each bundle comes before all behind it
abbrev pub AreInOrder : (List ℕ → List ℕ → Type 0) → List (List ℕ) → Type 0
AreInOrder ComesBefore [] = ⊤
AreInOrder ComesBefore (first ∷ others) =
    ((other : List ℕ) → IsAmong other others → ComesBefore first other)
    × AreInOrder ComesBefore others

-- some choices, each preferred to those behind it: each other choice is less preferred than all
pub record AreBest (wishes : Wishes) (price : ℕ → ℕ) (budget : ℕ) (allowed : ℕ → Bool)
    (bundles : List (List ℕ)) : Type 0 where
  pub some : 1 ≤ length bundles
  pub choices : (bundle : List ℕ) → IsAmong bundle bundles
      → IsChoice wishes price budget allowed bundle
  pub in_order : AreInOrder (IsPreferred wishes) bundles
  pub others : (other : List ℕ) → IsChoice wishes price budget allowed other
      → IsAmong other bundles
      ⊎ ((bundle : List ℕ) → IsAmong bundle bundles → IsPreferred wishes bundle other)

-- the first of these bundles whose price sum is at most the budget
abbrev pub IsFirstWithin : (ℕ → ℕ) → ℕ → List (List ℕ) → List ℕ → Type 0
IsFirstWithin price budget [] bundle = ⊥
IsFirstWithin price budget (first ∷ others) bundle =
    ((total price first ≤ budget) × (bundle ≡ first))
    ⊎ ((budget < total price first) × IsFirstWithin price budget others bundle)
