-- Clashes of a list of sections, one by one.
use Rattle.std.specs.Prelude.{ℕ, ◌≡◌, ◌<◌, ◌≤◌, false, ⊤, List, [], ◌∷◌, All, length}
use Rattle.market_units.specs.Totals.{total}
use Rattle.bundle_rules.specs.Wishes.{Wishes}
use Rattle.bundle_rules.specs.Menus.{MenuData, by_place}

-- a section clashes with none of these
abbrev pub ClashesWithNone : Wishes → ℕ → List ℕ → Type 0
ClashesWithNone wishes s [] = ⊤
ClashesWithNone wishes s (t ∷ ts) = (wishes.clash s t ≡ false) × ClashesWithNone wishes s ts

-- each section clashes with none of the later ones
abbrev pub AreApart : Wishes → List ℕ → Type 0
AreApart wishes [] = ⊤
AreApart wishes (s ∷ ss) = ClashesWithNone wishes s ss × AreApart wishes ss

-- the credits sum to at most the credit cap, and there are at most as many as the course cap
pub record IsWithinCaps (wishes : Wishes) (sections : List ℕ) : Type 0 where
  pub courses : length sections ≤ wishes.course_cap
  pub credits : total wishes.credits sections ≤ wishes.credit_cap

-- places of the menu that may be taken together
pub record MayTake (menu : MenuData) (places : List ℕ) : Type 0 where
  pub on_menu : All (λ place. place < length menu.places) places
  pub within : IsWithinCaps (by_place menu) places
  pub apart : AreApart (by_place menu) places
